pub mod Decimals
pub mod Request
pub mod Verdict
pub mod Truth
pub mod Line
