-- The laws.
pub mod Crossing
pub mod Passes
pub mod Blocks
