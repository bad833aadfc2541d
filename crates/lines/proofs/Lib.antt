pub mod Examples
pub mod Spelled
pub mod Values
pub mod Answered
pub mod Lengths
pub mod Pens
