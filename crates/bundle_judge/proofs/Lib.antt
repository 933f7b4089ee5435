-- The laws, for the reader too.
pub mod Cutting
pub mod Judging
