-- What each call promises; inner, what the private functions do. The standard is in the crate cmac_parts.
pub mod Calls
pub mod Inner
