-- What the rounds on sliced words do. The calls promise what `CiphersByKey64` and `CiphersBlocks64` of the crate published say.
pub mod Inner
