pub mod RangeLaws
pub mod Sizes
pub mod Narrowing
pub mod SunLaws
pub mod SunWidths
