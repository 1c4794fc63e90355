pub mod Polygons
pub mod Vectors
pub mod Extent
pub mod Bounds
pub mod Faults
pub mod Each
