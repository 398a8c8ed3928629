pub mod Commands
pub mod Digits
pub mod Jobs
pub mod Rules
pub mod WordValues
pub mod Why
