pub mod Due
pub mod One
pub mod Settle
