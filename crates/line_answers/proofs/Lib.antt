-- The laws behind a line's answer.
pub mod Numerals
pub mod Good
pub mod Responses
