pub mod Closed
pub mod Faults
pub mod Found
pub mod Moved
pub mod Paths
pub mod Refused
pub mod Reopened
