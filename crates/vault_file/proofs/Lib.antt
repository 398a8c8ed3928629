pub mod Closed
pub mod Leaving
pub mod Moving
pub mod Opening
pub mod Reopened
pub mod Whole
