pub mod Places
pub mod Joining
pub mod Dealing
pub mod Absorbing
pub mod Parting
