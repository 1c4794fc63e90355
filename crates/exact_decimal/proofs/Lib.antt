pub mod Cuts
pub mod Worth
pub mod DigitsLemmas
pub mod HeldLemmas
