mod Alike
pub mod Alone
mod Along
pub mod Begins
pub mod BesideLaws
mod Built
pub mod Claiming
mod Clearing
mod Commands
pub mod CourseLaws
mod CourseLists
pub mod CutLaws
pub mod Ending
mod Ends
pub mod FeasibleLaws
mod Finished
pub mod FirstViolation
pub mod HoldingLaws
pub mod Kept
mod LabFacts
pub mod ListLaws
mod Moves
mod OneSided
pub mod OwnCommands
pub mod OwnEvents
pub mod PartLaws
pub mod Records
mod Rows
pub mod Safe
pub mod SafeMoves
pub mod Steps
mod SuitLaws
pub mod TraceLaws
pub mod Whole
pub mod WiringLaws
mod Worked
