pub mod Parts
pub mod Causes
pub mod Meanings
