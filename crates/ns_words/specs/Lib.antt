pub mod Quantities
pub mod Values
pub mod Addresses
pub mod Objects
pub mod Letters
pub mod Seen
pub mod Once
