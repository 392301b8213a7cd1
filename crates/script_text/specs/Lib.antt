pub mod Heads
pub mod Commands
pub mod Taking
pub mod Blocks
pub mod Replies
pub mod Drills
