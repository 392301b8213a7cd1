pub mod Answering
pub mod Codes
pub mod Headline
pub mod Pieces
pub mod Ran
pub mod Readers
pub mod Reports
pub mod ReplyTakers
