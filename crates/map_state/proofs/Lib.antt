mod AloneLaws
pub mod ByNode
pub mod WhereLaws
pub mod GivenAnew
mod ListSteps
pub mod HostingLaws
pub mod Choices
pub mod StateLaws
mod RowLaws
mod PartSums
mod MemberLaws
pub mod FullLaws
pub mod PlannedLaws
pub mod Alikes
pub mod ServedLaws
mod TieLaws
mod JointLaws
mod OrderedPlans
mod LoneLaws
mod SoftRows
mod OwnEnds
mod ListedLaws
mod Served
pub mod HostedNodeLaws
mod SpareLaws
mod SpeedLaws
