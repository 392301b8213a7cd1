pub mod SideLaws
pub mod ForestLaws
mod InPlace
mod TableLaws
mod FaultLaws
mod BuilderLaws
mod NameLaws
mod SideTables
pub mod KeptLaws
pub mod ForestKept
pub mod Adding
pub mod TrunkCount
pub mod IfaceCount
