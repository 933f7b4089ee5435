-- Laws of the lanes.
pub mod Loop
pub mod Turned
pub mod Rounds
pub mod Bytes
pub mod Answers
pub mod Parts
