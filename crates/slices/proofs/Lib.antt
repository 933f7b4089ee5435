-- The laws.
pub mod Nibbles
pub mod Flips
pub mod Places
pub mod Rounding
pub mod Keys
pub mod Groups
