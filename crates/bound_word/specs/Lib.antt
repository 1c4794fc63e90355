pub mod Sights
pub mod Rule
pub mod Bounds
