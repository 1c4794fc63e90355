pub mod Polynomials
pub mod Scaled
pub mod Meeus
pub mod MeeusLaws
pub mod Suns
