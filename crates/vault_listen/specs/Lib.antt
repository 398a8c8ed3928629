pub mod Clocks
pub mod Faults
pub mod Giving
pub mod Live
pub mod Peers
pub mod Service
