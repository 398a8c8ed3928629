pub mod Faults
pub mod Items
pub mod Named
pub mod Proper
