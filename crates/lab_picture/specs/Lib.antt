pub mod Places
pub mod Tags
pub mod Shapes
pub mod Machines
pub mod Trunks
pub mod Switches
pub mod Lists
pub mod Pictures
