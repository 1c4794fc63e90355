pub mod DateLemmas
pub mod Pieces
pub mod Renumbered
pub mod CoveringLemmas
