pub mod CivilLemmas
pub mod DateLemmas
pub mod DayLemmas
pub mod LineLemmas
pub mod RuleLemmas
