mod Ahead
mod Growth
mod Turns
mod Whole
mod Numbers
pub mod Exactly
mod Faulty
