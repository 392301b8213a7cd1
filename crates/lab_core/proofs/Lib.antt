pub mod Audited
mod Compacting
pub mod Composing
mod EndOne
mod HowFar
mod InTurn
mod Keeping
mod ListCommands
mod ObeyJudged
mod OpenNames
mod OpenSwaps
mod Opened
mod PerformAppend
mod PerformSwap
mod Plays
mod Readiness
mod Recovering
mod RunSwap
mod RunsInTurn
mod Served
mod SettledOpenings
mod SwapReplies
mod TasksApart
mod Told
mod TurnLabs
mod TurnOne
mod Unanswered
pub mod BatchLines
pub mod Beside
pub mod BySolution
pub mod Events
pub mod ListSteps
pub mod Listings
pub mod Obey
pub mod OneJournal
pub mod OpenLaws
mod OpenMoves
pub mod Openings
pub mod OtherWorlds
pub mod Others
pub mod OuterReplies
pub mod OuterSteps
mod Parts
pub mod Places
pub mod PlayTells
pub mod PlayWirings
mod Refusals
pub mod Rested
pub mod Runs
pub mod Said
pub mod SameSwaps
pub mod SolutionLaws
pub mod StepLaws
pub mod StopsShut
pub mod TurnLaws
pub mod Wanting
pub mod Sessions
mod FoundMaps
mod PromiseNodes
mod PromiseRuns
mod Promised
