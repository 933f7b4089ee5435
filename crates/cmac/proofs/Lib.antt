-- Worked facts, and laws of the tag: strings, the chain, the last block, pieces, checking; and that no call has a second outcome.
pub mod Facts
pub mod Strings
pub mod Chaining
pub mod LastBlock
pub mod Pieces
pub mod Checking
pub mod OneOutcome
