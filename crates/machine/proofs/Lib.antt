pub mod Laws
pub mod ToCome
pub mod Steps
pub mod Standing
pub mod Items
pub mod Bounds
pub mod Asked
