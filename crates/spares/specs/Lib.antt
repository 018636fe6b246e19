pub mod Free
pub mod Closure
pub mod Spares
pub mod Rows
