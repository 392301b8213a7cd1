mod Agreeing
mod AllWanted
mod ByOwner
mod Comparing
pub mod Nothing
mod Owners
mod Reading
mod Sorting
mod Telling
