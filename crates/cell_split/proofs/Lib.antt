pub mod CellLemmas
pub mod Every
pub mod LeafLemmas
pub mod Renumbering
pub mod SplitLemmas
pub mod TreeLemmas
