pub mod Seats
pub mod Seen
pub mod Looks
pub mod Beside
pub mod Reports
pub mod Records
pub mod CheckLines
pub mod Shows
