pub mod Geometry
pub mod Lookup
pub mod Seen
