pub mod Lines
pub mod Pens
pub mod Printed
