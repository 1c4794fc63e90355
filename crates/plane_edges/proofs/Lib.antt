pub mod Products
pub mod Truth
pub mod Apart
pub mod Parity
pub mod OnEdge
pub mod OffEdge
pub mod Beyond
pub mod Touching
