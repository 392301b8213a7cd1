pub mod Calls
pub mod Causes
pub mod Feeds
pub mod Lines
pub mod Mem
pub mod Taken
pub mod Next
pub mod Passed
