pub mod Trees
pub mod Parsing
pub mod Loading
pub mod Theorems
pub mod Texts
pub mod Naming
