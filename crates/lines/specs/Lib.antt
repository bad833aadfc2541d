pub mod Bytes
pub mod Pages
pub mod Pens
pub mod Names
pub mod Lines
pub mod Refusals
pub mod Lengths
