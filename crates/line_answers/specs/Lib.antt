-- What the line program answers to a line: document 01's rules.
pub mod Line
pub mod Asked
