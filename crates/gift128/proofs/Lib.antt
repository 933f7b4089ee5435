-- Laws of the cipher's calls.
pub mod Answers
pub mod Blocks
pub mod OrderZero
pub mod OneOutcome
pub mod AnyWords
