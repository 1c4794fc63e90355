pub mod Entering
pub mod Harvested
pub mod Parts
pub mod Refuting
pub mod Running
pub mod Spelling
pub mod Walking
