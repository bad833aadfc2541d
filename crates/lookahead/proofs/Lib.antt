pub mod Numbering
pub mod Growth
