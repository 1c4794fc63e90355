pub mod Line
pub mod LineLaws
pub mod LineReading
