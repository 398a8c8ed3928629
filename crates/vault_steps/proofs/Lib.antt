pub mod CardStep
pub mod Climbing
pub mod Entered
pub mod Making
pub mod PartsByVersion
