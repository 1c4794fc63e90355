pub mod SetLemmas
pub mod JoinLemmas
pub mod Lawful
