pub mod Images
pub mod Traces
pub mod Fronts
pub mod Full
pub mod Orders
