pub mod Facts
pub mod Going
pub mod States
pub mod Steps
pub mod Troubles
pub mod Turns
pub mod Views
pub mod Ways
