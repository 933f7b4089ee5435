-- The laws.
pub mod Effects
pub mod Answering
pub mod OneOutcome
