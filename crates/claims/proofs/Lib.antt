mod ByNode
pub mod Counting
pub mod Empty
mod Entries
mod Fits
pub mod FreeIds
mod Leavings
pub mod Matching
pub mod OthersLeave
pub mod Ranges
pub mod Replacing
mod Standing
pub mod Taking
