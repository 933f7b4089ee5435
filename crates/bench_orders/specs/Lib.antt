-- What a reader has to believe of the numbers of the four calls.
pub mod Orders
