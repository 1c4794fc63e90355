pub mod PartsLemmas
pub mod SetLaws
