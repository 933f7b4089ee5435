-- Laws of the boxes and rounds.
pub mod Table
pub mod Columns
pub mod Shapes
pub mod Sliced
pub mod Fixslice
pub mod Five
pub mod Chain
pub mod Eight
pub mod Several
