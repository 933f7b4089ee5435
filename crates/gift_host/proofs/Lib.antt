-- Facts about promises that several functions of the library for hosts share.
pub mod Engines64
