pub mod TreeFacts
pub mod Greatest
pub mod Reordered
pub mod Collecting
pub mod Harvesting
pub mod Rising
pub mod OpenLeaves
