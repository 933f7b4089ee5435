-- Laws behind comparing: bytes compared, a table from id to id, the lines of a stretch of ids, rows, the ways in which it ends; then answers told apart, what is proved of the
-- list, and that there is no second outcome.
pub mod Compared_bytes
pub mod Tables
pub mod Stretches
pub mod Rows
pub mod Outcomes
pub mod Told_apart
pub mod Theorems
pub mod OneOutcome
