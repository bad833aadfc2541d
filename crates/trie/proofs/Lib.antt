pub mod Childs
pub mod Grows
pub mod Steps
pub mod Inserts
