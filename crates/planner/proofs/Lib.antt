pub mod Supporting
pub mod Sheeted
