pub mod AsrLaws
pub mod Tolerance
