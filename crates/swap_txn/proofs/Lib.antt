mod Knowing
mod Others
mod Positions
mod Quiet
mod Rooms
mod Standing
mod Stepping
pub mod Turning
mod Watching
