pub mod Body
pub mod Plain
pub mod Reply
pub mod Route
pub mod Status
pub mod Table
pub mod Templates
pub mod Wanted
