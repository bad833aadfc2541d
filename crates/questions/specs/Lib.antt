pub mod Refusals
pub mod Lines
pub mod Questions
pub mod FirstFaults
pub mod Steps
