-- The laws, for the crates above.
pub mod Putting
pub mod Answered
