-- What every call's answer is made of: its number by name, the order in which refusals are tried, and its outcome.
pub mod Numbers
pub mod Refusals
pub mod Order
pub mod Outcome
