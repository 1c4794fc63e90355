pub mod Letters
pub mod Refuted
pub mod Seeks
pub mod Entries
pub mod Settles
pub mod Laws
pub mod Runs
pub mod Lines
