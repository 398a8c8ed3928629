pub mod NumbersGiven
pub mod OneEntry
pub mod OneToken
pub mod Reopened
pub mod Steps
