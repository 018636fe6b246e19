pub mod Covering
pub mod Matching
pub mod Paired
pub mod Search
pub mod Notes
pub mod Roles
