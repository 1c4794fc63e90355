pub mod Decimals
pub mod Digits
pub mod Micro
pub mod Numerals
