pub mod Lines
pub mod Refusals
pub mod Input
pub mod Taken
pub mod Answers
