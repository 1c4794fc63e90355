pub mod Dates
pub mod Gives
pub mod Members
pub mod Standing
pub mod Words
