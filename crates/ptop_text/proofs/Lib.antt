mod Arities
mod LinkLaws
mod NoFault
mod DeviceAgain
mod LinkAgain
mod Printed
pub mod LabAgain
mod Sizes
