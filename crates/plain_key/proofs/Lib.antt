-- The laws behind the key's part of the plain engine.
pub mod Keys
