-- Inner: what the private functions of the plain engine do to a key state, by the number of nibbles. The numbers are `key_code` and `key_code64` of the crate published.
pub mod Inner
