mod KeptLaws
pub mod OwnPlaces
pub mod SoundTests
mod AddressAgain
mod PartLaws
mod SegmentLaws
mod MarkLaws
mod TableLaws
mod AddedLaws
mod TopLines
pub mod TopAgain
mod TopPrinted
pub mod TopWhole
pub mod PipeCount
mod TopSizes
