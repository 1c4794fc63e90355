pub mod Totals
pub mod Moves
