pub mod Latest
pub mod Lists
pub mod Members
pub mod Numbers
pub mod Pairs
pub mod Words
