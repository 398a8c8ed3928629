pub mod Answered
pub mod JoinedConnections
pub mod ServedConnections
pub mod TimeJumps
pub mod Turns
