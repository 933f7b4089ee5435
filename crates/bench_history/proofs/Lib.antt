-- The promises kept. `Demand` is what is proved of every history; the others lead there.
pub mod Accepted
pub mod Touched
pub mod Standing
pub mod Waiting
pub mod Quintuples
pub mod Effects
pub mod Belongs
pub mod Demand
pub mod OrderZero
pub mod Guests
pub mod OneOutcome
mod Examples
pub mod Wiped
