pub mod Acts
pub mod Walks
pub mod Loads
