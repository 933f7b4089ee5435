-- Laws of the list: what is read back of a line, a list and a bundle; all that is written.
pub mod Once
pub mod Whole
