-- What a node sees of a bundle, as a list, and what is promised of it.
pub mod Seen
pub mod Promises
