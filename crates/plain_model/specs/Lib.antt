pub mod Cabling
pub mod EndsView
pub mod Holds
pub mod Isolation
pub mod OwnerView
pub mod Rows
pub mod WantedRows
pub mod WantedView
