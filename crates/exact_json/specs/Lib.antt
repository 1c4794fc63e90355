pub mod Grammar
pub mod Runs
pub mod Advance
pub mod Read
pub mod Readings
pub mod Limits
