-- What a reader has to believe of a bench and its turns: what makes it sound, and whose turn it is.
pub mod Turning
pub mod Sound
