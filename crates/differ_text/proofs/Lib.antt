-- Laws of the text: laid in a buffer; numbers; answers by state and kind; what an accepted bundle answers; all that is written; and that different answers never print alike.
pub mod Laid
pub mod Numbers
pub mod Sides
pub mod Accepted
pub mod Whole
pub mod Apart
