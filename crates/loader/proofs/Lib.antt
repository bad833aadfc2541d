mod Onward
pub mod Runs
pub mod Turns
pub mod Passing
pub mod Sides
pub mod Lefts
pub mod LateRefusals
pub mod Atoms
pub mod Marks
pub mod Sentences
pub mod Theories
