-- The laws of the numbers and the subkeys, for the calls too.
pub mod Xored
pub mod Subkeys
pub mod Passing
