pub mod Shapes
pub mod Rows
pub mod Words
pub mod Fills
