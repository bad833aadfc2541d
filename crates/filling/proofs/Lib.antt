pub mod Fills
pub mod Accepts
pub mod Maps
pub mod RightSides
