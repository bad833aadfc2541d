pub mod Grammar
pub mod Loads
