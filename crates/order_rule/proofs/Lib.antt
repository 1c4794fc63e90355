pub mod OffsetLemmas
pub mod RuleLemmas
pub mod SignedLemmas
