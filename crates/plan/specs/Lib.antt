pub mod States
pub mod Trust
