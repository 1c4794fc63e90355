pub mod Odd
pub mod Wholly
pub mod Along
pub mod Cut
pub mod Keeping
mod InBlocks
pub mod InBounds
