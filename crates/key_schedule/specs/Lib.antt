-- What the contracts say: the eighty words of a key; and inner, the update of a key word, two words in one number, moves of their bits, and the words of five rounds and of ten.
pub mod Expand
pub mod InnerUpdate
pub mod InnerHalves
pub mod InnerTens
pub mod InnerTwenty
pub mod InnerMoves
