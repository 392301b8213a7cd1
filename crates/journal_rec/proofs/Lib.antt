mod Loops
pub mod Numbers
pub mod Fields
pub mod Packing
pub mod Records
pub mod Again
