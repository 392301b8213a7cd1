pub mod Taken
pub mod Blocks
mod Wholes
pub mod ToldRuns
