pub mod Fits
pub mod Bounds
pub mod Aparts
pub mod Counts
pub mod Rows
pub mod Withins
