pub mod DemoLemmas
pub mod LineLemmas
pub mod NumberLemmas
pub mod TallyLemmas
