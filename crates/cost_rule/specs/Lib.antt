pub mod Cost
pub mod Counting
pub mod Parts
