pub mod Booted
pub mod Complete
pub mod Full
pub mod OpenCourses
pub mod Bounds
pub mod Quiet
pub mod Sends
pub mod Ends
