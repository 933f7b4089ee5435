-- What a reader has to believe of one lane's record, and of the numbers in it.
pub mod Record
pub mod Kinds
