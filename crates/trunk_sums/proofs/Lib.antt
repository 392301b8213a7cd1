pub mod Replugged
mod CrossLaws
pub mod SummedLaws
mod BetweenLaws
mod SumLaws
mod BitLaws
mod GainLaws
mod TotalLaws
pub mod RemadeLaws
mod StartLaws
pub mod ShareLaws
