-- Laws of moved and swapped bits, and of blocks and words, for the functions here and for the crates above.
pub mod Moves
pub mod Swaps
pub mod Blocks
