mod Examples
pub mod Finding
pub mod LabLaws
pub mod Making
pub mod Stages
pub mod Starts
pub mod Swaps
mod TraceLaws
mod Turning
pub mod Work
