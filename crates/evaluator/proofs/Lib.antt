pub mod Right
pub mod Came
