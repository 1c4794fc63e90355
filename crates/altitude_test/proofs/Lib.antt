pub mod ValueLaws
pub mod Verdicts
pub mod Tolerance
