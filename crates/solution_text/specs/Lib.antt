pub mod Solutions
pub mod Names
pub mod CanonicalSolution
pub mod Once
pub mod Again
