-- What is proved of the definitions, for the functions here and for the crates above.
pub mod Halves
pub mod Updates
pub mod Exchanges
pub mod Tables
pub mod TenWords
pub mod KeyState
pub mod KeyBytes
pub mod Parts
pub mod Expanded
pub mod Passing
pub mod EqualKeys
