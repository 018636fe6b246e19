pub mod Walking
pub mod Standing
pub mod Faults
pub mod Texts
