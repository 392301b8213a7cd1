mod Back
mod Left
mod Pasts
mod Written
