pub mod Added
pub mod Parsed
pub mod Readings
