-- The laws behind the reader.
pub mod Steps
