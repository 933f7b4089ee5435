-- The laws, for the crates above: arrangements, words and pairs, pairs in a row, exchanges of bits; and that no call has a second outcome.
pub mod Arrangements
pub mod Keeping
pub mod Rows
pub mod Exchanges
pub mod OneOutcome
