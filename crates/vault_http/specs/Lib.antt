pub mod Exchanges
pub mod Faults
pub mod Laws
pub mod Refusing
pub mod Served
