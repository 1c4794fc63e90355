pub mod Owing
pub mod OpenRanks
pub mod Workers
