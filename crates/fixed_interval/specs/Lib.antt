pub mod Fraction
pub mod Enclosure
pub mod Grid
pub mod Whole
pub mod Interval
pub mod Bound
pub mod Laws
