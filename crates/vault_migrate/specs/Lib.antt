pub mod Laws
pub mod Migrated
pub mod Moved
pub mod Refused
pub mod Typed
