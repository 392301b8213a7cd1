pub mod Files
pub mod Folders
pub mod Lost
pub mod Names
