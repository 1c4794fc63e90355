pub mod Digits
pub mod Sign
