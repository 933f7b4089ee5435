-- The standard, and the numbers of the calls; inner, what the functions do to a block.
pub mod Standard
pub mod Orders
pub mod Inner
