pub mod Rings
pub mod Named
pub mod Laws
pub mod Strips
pub mod Blocks
