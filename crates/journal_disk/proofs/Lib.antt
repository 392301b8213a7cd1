mod Bytes
mod Chains
pub mod Prefixes
pub mod Walking
pub mod Parts
pub mod Placing
pub mod Found
pub mod Made
mod Fronts
mod Opening
pub mod Holding
mod Shutting
pub mod CompactSteps
pub mod CompactImages
mod CompactMoments
mod Leaving
mod EpochLaws
mod WriteTextLaws
mod CompactExits
mod Beginnings
pub mod LastSteps
