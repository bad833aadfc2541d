pub mod Scanning
pub mod Law
pub mod Exact
pub mod Counting
