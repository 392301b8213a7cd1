pub mod Asked
mod Behind
pub mod Busy
pub mod Checks
pub mod Drops
mod EventChanges
mod JudgePlay
pub mod JudgeSwap
pub mod JudgeTasks
mod Tags
mod Taken
mod WaysIn
