-- The laws, for the crates above.
pub mod Zero
pub mod Records
