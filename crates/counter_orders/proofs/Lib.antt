-- What a call has passed that is done, or short of counters.
pub mod Passing
