pub mod Numbers
pub mod Records
pub mod Outputs
pub mod Whole
pub mod Causes
