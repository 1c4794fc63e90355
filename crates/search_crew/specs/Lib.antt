pub mod Crews
pub mod Endings
