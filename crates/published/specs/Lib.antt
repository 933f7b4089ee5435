-- What a reader has to believe: the ciphers of documents 01 and 02, in their words; and inner, how a round is undone step by step.
pub mod Bytes
pub mod Rounds
pub mod Key
pub mod Gift128
pub mod Gift64
pub mod Calls
pub mod Blocks
pub mod Calls64
pub mod Packing
pub mod Seen
pub mod Inner
