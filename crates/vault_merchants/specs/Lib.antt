pub mod Faults
pub mod ListedMerchants
