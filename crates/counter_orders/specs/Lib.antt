-- The numbers of counter mode's calls.
pub mod Orders
