-- What the library says of itself.
pub mod Edition
