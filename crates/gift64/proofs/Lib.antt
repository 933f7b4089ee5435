-- Laws of the sliced rounds, of round words and of the calls.
pub mod Turning
pub mod Rounding
pub mod Keys
pub mod Crossing
