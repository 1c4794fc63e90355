pub mod Accepted
pub mod Documents
pub mod Runs
pub mod Settling
pub mod ShortRuns
pub mod Texts
