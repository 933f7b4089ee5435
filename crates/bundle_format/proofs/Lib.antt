-- Laws of the format: numbers and entries written and read; what a reader's 0 says; kinds and editions; a list encoded and read; accepted bytes; two readers; then the
-- request's theorems, worked facts, and that no call has a second outcome.
pub mod Rows
pub mod Accepted
pub mod Editions
pub mod Encoded
pub mod Decoded
pub mod Nodes
pub mod Entries
pub mod Theorems
pub mod Facts
pub mod OneOutcome
