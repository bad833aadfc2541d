pub mod Tests
pub mod Unique
pub mod Sound
pub mod Complete
pub mod Keller
pub mod Theorems
pub mod Shown
pub mod Examples
