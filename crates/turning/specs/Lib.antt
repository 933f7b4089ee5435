-- What blocks in slices are; and inner, the steps of a transposition.
pub mod Slices
pub mod Inner
