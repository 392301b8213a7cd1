mod Placing
mod Bodies
mod Stepping
