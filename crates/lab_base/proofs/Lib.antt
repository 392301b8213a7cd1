pub mod Digits
mod LineLaws
pub mod FieldLaws
pub mod Again
pub mod FieldLists
pub mod Members
pub mod Bytes
pub mod Lists
pub mod Names
pub mod Numbers
pub mod Tests
