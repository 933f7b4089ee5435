-- What is proved of packing and unpacking, for the functions here and for the crates above.
pub mod Steps
pub mod Halves
pub mod Laid
pub mod Placed
pub mod Inverse
pub mod Small
