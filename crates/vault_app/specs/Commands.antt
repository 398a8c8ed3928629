-- What each subcommand says beside its words.
pub mod Batch
pub mod Check
pub mod Listing
pub mod Merchant
pub mod Merchants
pub mod Migrate
pub mod Pipe
pub mod Rights
pub mod RightsFile
pub mod Serve
pub mod Sweep
pub mod Trial
