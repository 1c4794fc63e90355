pub mod Asked
pub mod Features
pub mod Reading
pub mod Reads
pub mod Rule
pub mod Together
pub mod Views
