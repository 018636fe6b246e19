pub mod Singles
pub mod Shorts
mod Flips
mod Hunts
pub mod Coverings
pub mod Turns
pub mod Held
