pub mod Entries
pub mod Migrating
pub mod More
pub mod Moving
pub mod OneVault
