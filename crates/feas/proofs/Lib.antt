mod HostedNodeLaws
mod EndLists
mod LoadLists
pub mod JoinLaws
mod CableSteps
mod SharedNodes
