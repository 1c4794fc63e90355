pub mod Sun
pub mod SunLaws
pub mod SunWidths
