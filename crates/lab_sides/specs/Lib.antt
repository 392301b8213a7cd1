pub mod Heads
pub mod Walks
pub mod Reads
