-- What the steps do to nibbles. The calls promise what `CiphersByKey` and `CiphersByKey64` of the crate published say.
pub mod Inner
