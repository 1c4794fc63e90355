pub mod Asr
pub mod AsrLaws
pub mod Tolerance
