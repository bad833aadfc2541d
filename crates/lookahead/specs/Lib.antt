pub mod Ended
pub mod Ahead
