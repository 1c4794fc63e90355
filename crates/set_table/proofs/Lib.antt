pub mod TableLemmas
pub mod MadeLemmas
pub mod RightLemmas
