pub mod Copied
mod Fronts
pub mod Known
pub mod LineLaws
pub mod LongLines
pub mod Passing
