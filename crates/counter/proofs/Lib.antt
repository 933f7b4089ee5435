-- Laws of counter mode. `Cutting` and `Claims` are what is claimed; the others lead there: strings, the key stream's blocks,
-- many bytes at once, and what each function leaves.
pub mod Strings
pub mod Blocks
pub mod Chunks
pub mod Jumping
pub mod Leaving
pub mod Cutting
pub mod Claims
