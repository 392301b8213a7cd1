mod EndKeys
mod Places
mod IfaceCount
mod Listed
mod NodeLists
mod OwnNames
pub mod GivenLaws
mod ZipLaws
pub mod SolutionAgain
mod SolutionSizes
