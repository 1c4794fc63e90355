pub mod TextLemmas
pub mod NightLemmas
pub mod DayLemmas
pub mod RightLemmas
pub mod TableLemmas
pub mod WholeTable
