pub mod Tables
pub mod Trusting
