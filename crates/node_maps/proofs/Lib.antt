pub mod Leasts
pub mod Places
pub mod EndLists
pub mod Shaped
pub mod MapLaws
mod Bearing
pub mod IndexLaws
mod Worked
mod TableLaws
pub mod OrderLaws
mod CandidateLaws
mod KindLaws
pub mod PlugLaws
pub mod Assembled
pub mod MovedLaws
pub mod KeptPlugs
pub mod InOrder
pub mod MarkLaws
mod DivisorLaws
