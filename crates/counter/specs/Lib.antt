-- The standard, a stream byte by byte, what each call promises, and a message in pieces; inner, what the private functions do.
pub mod Standard
pub mod Steps
pub mod Calls
pub mod Pieces
pub mod Inner
