pub mod Equality
pub mod Impossible
pub mod Balance
pub mod LookUp
pub mod Boundaries
