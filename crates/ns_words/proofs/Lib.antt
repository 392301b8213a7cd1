mod Leading
mod Amounts
mod Lookups
mod LetterLaws
mod Measures
pub mod AddressLaws
pub mod NameLaws
pub mod Exact
