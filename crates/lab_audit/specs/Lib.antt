pub mod Diff
pub mod Lines
pub mod Nodes
pub mod Reads
pub mod Wants
