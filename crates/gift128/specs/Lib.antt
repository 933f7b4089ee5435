-- What each call of the cipher answers.
pub mod Calls
