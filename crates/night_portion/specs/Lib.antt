pub mod Sun
pub mod Bounds
pub mod Minutes
pub mod Few
pub mod SafeNights
pub mod Laws
