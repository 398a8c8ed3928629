pub mod Numbers
pub mod Statuses
