pub mod Appends
pub mod Labs
pub mod Openings
pub mod Works
