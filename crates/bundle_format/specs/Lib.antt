-- The bundle's format, as request 2026-11 has it: a list of settings and its encoding; what a reader finds in any bytes; what a writer takes and gives; what the theorems promise.
pub mod Format
pub mod Reader
pub mod Answers
pub mod Writer
pub mod Promises
