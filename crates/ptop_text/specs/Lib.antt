pub mod Lines
pub mod Adding
pub mod Refusals
pub mod Canonical
