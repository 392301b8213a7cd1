pub mod Watched
pub mod WatchView
