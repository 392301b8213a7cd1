pub mod Carried
pub mod Named
pub mod Rows
pub mod Sides
pub mod Reasons
pub mod Outcomes
