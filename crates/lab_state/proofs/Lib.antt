mod BeginLaws
pub mod Canonical
mod EnterLaws
mod JudgeLaws
mod MoveLaws
mod Formed
pub mod Named
mod PackLaws
pub mod PackSteps
mod ReplayLaws
mod SizeLaws
mod SwapLaws
mod Taken
pub mod TextLaws
