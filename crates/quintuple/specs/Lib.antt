-- What the boxes, the five rounds and their undoing give; and inner, what each round makes of words.
pub mod Boxes
pub mod Quintuple
pub mod Inner
