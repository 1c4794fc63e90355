pub mod Counting
pub mod Sound
pub mod Reach
pub mod EachLemmas
