pub mod Views
pub mod Runs
pub mod Flags
pub mod Lines
