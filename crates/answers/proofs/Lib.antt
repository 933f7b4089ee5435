-- The laws, for the crates above.
pub mod Passed
pub mod Outcome
pub mod NotDone
