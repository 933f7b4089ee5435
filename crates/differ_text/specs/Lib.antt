-- What is printed of two bundles, and the pieces that it comes in.
pub mod Rendered
pub mod Pieces
pub mod Promises
pub mod Puts
