-- What is proved of the definitions, for the crates above.
pub mod Facts
pub mod Reading
pub mod Steps
pub mod Undone
pub mod OneBit
pub mod RoundTrip
pub mod Gift128
pub mod Gift64
pub mod Calls
pub mod Calls64
pub mod Many
pub mod Groups
pub mod Parts
pub mod Listed
pub mod Words
pub mod Seen
