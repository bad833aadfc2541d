pub mod Adds
pub mod Looks
pub mod Firsts
pub mod Rooms
