pub mod Values
pub mod ValueLaws
pub mod Conditions
pub mod Verdicts
pub mod Tolerance
