pub mod Lines
pub mod Script
pub mod Sources
pub mod Summary
