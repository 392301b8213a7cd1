mod Due
pub mod Resting
mod Settling
mod Stepping
