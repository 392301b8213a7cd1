pub mod Sums
pub mod Different
mod KindSteps
mod LimitLaws
pub mod PartLaws
pub mod UseLaws
