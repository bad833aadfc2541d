pub mod Spelled
pub mod Sound
pub mod Complete
pub mod Steps
pub mod Loads
pub mod Misplaced
pub mod Naming
