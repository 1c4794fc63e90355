pub mod Digits
pub mod VerdictLemmas
pub mod TruthLemmas
pub mod RangeLemmas
