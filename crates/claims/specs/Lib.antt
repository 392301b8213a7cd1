pub mod Adding
pub mod Answered
pub mod Counts
pub mod Experiments
pub mod Held
pub mod Holds
pub mod Kept
pub mod Marks
