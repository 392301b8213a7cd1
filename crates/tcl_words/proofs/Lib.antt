mod Nest
pub mod OneSplitting
pub mod Passing
pub mod Plans
mod Reading
mod Rising
mod Steps
