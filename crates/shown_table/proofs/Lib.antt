pub mod ShowingLemmas
pub mod RightLemmas
pub mod OrderLemmas
pub mod DayLemmas
pub mod TableLemmas
pub mod EndingLemmas
