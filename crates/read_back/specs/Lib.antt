pub mod Spellings
pub mod Theorems
