-- What the crates of the port say of words: bits that move and the block that four words stand for.
pub mod Words
pub mod Packed
