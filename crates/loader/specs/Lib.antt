pub mod Onward
pub mod Readings
pub mod Equations
pub mod Blocks
pub mod Loads
