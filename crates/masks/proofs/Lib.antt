pub mod Masks
pub mod Subsets
pub mod Counts
pub mod Ends
pub mod Sizes
pub mod Partings
pub mod Laws
