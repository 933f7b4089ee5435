-- The laws, for the crates above.
pub mod Soundness
pub mod Seeking
pub mod Made
pub mod Rest
