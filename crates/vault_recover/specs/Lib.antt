pub mod Crashed
pub mod Histories
pub mod Unopened
