-- Inner: round words as masks, and what the steps of a round do to slices.
pub mod InnerMasks
pub mod Inner
