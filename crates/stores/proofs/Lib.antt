pub mod Loops
pub mod Closes
pub mod Pairs
pub mod Fits
pub mod Keeps
pub mod Longest
