-- What a reader has to believe of a lane's turns.
pub mod Turns
