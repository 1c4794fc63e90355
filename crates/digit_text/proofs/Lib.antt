pub mod DigitLemmas
mod SignLemmas
