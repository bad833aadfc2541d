pub mod Limits
pub mod Terms
pub mod Maps
pub mod LookUp
pub mod Boundaries
