pub mod Implications
pub mod Roots
pub mod Exact
pub mod Parts
pub mod Fitting
