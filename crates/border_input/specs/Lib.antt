pub mod Gives
pub mod Requests
pub mod Reading
pub mod Reads
pub mod Lines
pub mod Taken
