-- What whole groups are; and inner, eight states in four lists.
pub mod Groups
pub mod Inner
