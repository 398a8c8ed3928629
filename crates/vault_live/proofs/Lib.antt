pub mod Attending
pub mod ProperChanges
pub mod ProperPurges
pub mod ProperSettings
mod Remembering
pub mod Stepping
pub mod Telling
pub mod Turning
pub mod Unaccepted
