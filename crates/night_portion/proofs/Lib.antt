pub mod FewLemmas
pub mod BoundLemmas
pub mod SunLemmas
pub mod MinuteLemmas
pub mod SafeLemmas
pub mod DayLemmas
