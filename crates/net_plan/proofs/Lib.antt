pub mod ListLaws
mod NameLaws
mod Counts
mod AddressLaws
pub mod LimitLaws
mod Apart
mod Framing
mod Marks
mod PartNames
mod Numbering
mod Ready
mod SoundParts
mod SoundOnce
mod LeastLaws
