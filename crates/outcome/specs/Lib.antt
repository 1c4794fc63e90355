pub mod Answer
pub mod Streams
pub mod Ends
pub mod Endings
pub mod Writing
