pub mod Reading
pub mod Refusals
pub mod Printing
pub mod Fields
pub mod Pairs
pub mod Rates
pub mod Addresses
