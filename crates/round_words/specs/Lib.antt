-- What a reader has to believe of round words: arrangements, the pairs that words stand for, the two calls; and inner, both maps as one.
pub mod Arranged
pub mod Calls
pub mod Inner
