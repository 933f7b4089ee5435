-- What packing and unpacking answer; and inner, the halves between bytes and words.
pub mod Packing
pub mod Orders
pub mod Inner
