pub mod Puts
pub mod Rising
pub mod Lengths
