-- What the line program answers: document 01's rules for a whole input, and what the calls do towards it.
pub mod Input
pub mod Session
