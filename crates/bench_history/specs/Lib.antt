-- What is promised of a bench over every list of calls.
pub mod History
pub mod Promises
pub mod Guests
