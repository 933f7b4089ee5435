-- Laws of texts and digits.
pub mod Texts
pub mod Numerals
pub mod Lengths
