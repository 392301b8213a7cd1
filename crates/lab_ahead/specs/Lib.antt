pub mod Batches
pub mod Givings
pub mod SearchTrees
pub mod Moments
pub mod Waits
pub mod Ends
pub mod Served
