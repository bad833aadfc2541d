pub mod Steps
pub mod ToCome
pub mod Items
pub mod Bounds
pub mod Theorems
