pub mod Covering
pub mod Cutting
pub mod FirstLine
