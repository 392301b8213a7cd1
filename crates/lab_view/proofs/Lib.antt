mod Holders
mod Leading
mod Firsts
