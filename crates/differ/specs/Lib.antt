-- Where two bundles differ: the lines and what comparing promises; what its walk knows; what is proved of it, in words of answers.
pub mod Difference
pub mod Inner
pub mod Promises
