pub mod Judge
pub mod JudgeRun
pub mod Searches
pub mod Serving
