-- The laws, for the crates above.
pub mod Digits
pub mod Bits
pub mod Truth
pub mod Computed
pub mod Reflect
pub mod Pointwise
pub mod Filling
pub mod Columns
pub mod Fills
