-- The laws behind the plain engine's proofs.
pub mod Nibbles
pub mod Tables
pub mod Moving
pub mod Flips
pub mod Adding
pub mod Bytes
pub mod Rounds
