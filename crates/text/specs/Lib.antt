-- A short text: hex digits, decimal digits, and the record that holds it.
pub mod Hex
pub mod Decimal
pub mod Written
