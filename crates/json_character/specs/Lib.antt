pub mod Ascii
pub mod Pieces
pub mod Texts
pub mod Within
