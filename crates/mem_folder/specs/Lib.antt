pub mod Losses
pub mod MemFolders
pub mod MemPossible
pub mod MemTold
