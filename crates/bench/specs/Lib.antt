-- What a reader has to believe of the calls: what each of them answers.
pub mod Calls
