mod Answering
mod Answers
mod AuditLaws
mod BrokenOpenings
mod Commanding
mod Compact
mod Drilling
mod Ended
mod EveryPlant
mod HandedOn
mod Headline
mod Moving
mod Obeyed
pub mod Pieces
pub mod RunLaws
pub mod Scripts
mod Stepping
mod RepliesTaken
pub mod TurnLaws
mod Wording
mod EachImage
