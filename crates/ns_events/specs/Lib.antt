pub mod Schedules
pub mod Pipes
pub mod Changes
pub mod Renewed
pub mod Once
