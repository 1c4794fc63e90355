pub mod Withins
pub mod CharacterRests
pub mod Characters
pub mod CharacterSteps
pub mod CharacterEnds
