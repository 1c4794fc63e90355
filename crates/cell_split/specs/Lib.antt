pub mod Cells
pub mod Entries
pub mod Judges
pub mod Laws
pub mod Renumbered
pub mod Split
pub mod Tree
pub mod Verdicts
