pub mod Numbers
pub mod Distinct
pub mod Parts
pub mod Hash
pub mod Held
pub mod Tables
