pub mod Harvests
pub mod Collected
pub mod Quarters
pub mod TopRanks
