pub mod PieceLemmas
pub mod AgainLemmas
