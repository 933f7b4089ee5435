-- Laws of the writer: rows that are lent, bytes that are stored, and the number.
pub mod Lent
pub mod Stored
pub mod Numbered
