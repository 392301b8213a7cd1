mod Moments
mod Renewing
mod Sounding
mod Applying
mod Shaping
mod OneApplied
mod OneSchedule
mod Counting
pub mod Behind
