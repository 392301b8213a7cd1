pub mod EndLaws
pub mod LoadLaws
mod RepeatLaws
pub mod CableLaws
pub mod MoreLaws
pub mod MoreEnds
