pub mod Bools
pub mod Rests
pub mod Runs
pub mod Resting
pub mod Exact
pub mod Sweeps
