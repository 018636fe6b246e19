pub mod Layout
pub mod Steps
pub mod Kinds
pub mod Files
pub mod Refusals
