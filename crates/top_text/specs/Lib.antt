pub mod Lines
pub mod Adding
pub mod Tables
pub mod Canonical
pub mod Printable
pub mod Once
pub mod Again
