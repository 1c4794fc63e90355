pub mod Magnitude
pub mod Plane
pub mod EdgePoints
pub mod Views
pub mod Laws
