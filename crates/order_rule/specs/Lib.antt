pub mod Asked
pub mod Late
pub mod Offsets
pub mod Rule
