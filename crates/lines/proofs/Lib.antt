-- The laws behind the line program's proofs.
pub mod Lengths
pub mod Whole
pub mod Shape
pub mod Engines
