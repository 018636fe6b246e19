pub mod Support
pub mod Sheets
