pub mod Trees
pub mod Law
pub mod Opened
pub mod Sameness
pub mod Handles
