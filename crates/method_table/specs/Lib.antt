pub mod Horizon
pub mod Kind
pub mod Method
pub mod Row
pub mod Sun
pub mod Table
