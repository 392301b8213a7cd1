pub mod Moved
pub mod Nodes
pub mod Uses
