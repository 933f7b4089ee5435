-- Inner: what the reader asks of the bytes. What a bundle is and what is refused stands in the crate bundle_format.
pub mod Inner
