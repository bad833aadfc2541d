pub mod Kept
pub mod Granted
