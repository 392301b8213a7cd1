pub mod Parts
pub mod Addresses
pub mod Expansion
pub mod Least
