pub mod Contents
pub mod Parts
pub mod Held
pub mod Firsts
pub mod Meanings
