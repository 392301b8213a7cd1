mod Claimed
pub mod Fits
mod JudgeRun
mod JudgeTasks
pub mod Judgements
mod SearchLaws
mod Searched
mod Shown
