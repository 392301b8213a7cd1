mod Firsts
mod Colours
pub mod Looking
mod Sums
mod Plugs
mod Lost
mod Holes
pub mod Ends
mod Beginning
