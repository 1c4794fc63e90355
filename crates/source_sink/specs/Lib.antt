pub mod Memory
pub mod Outside
pub mod Reading
pub mod Standard
pub mod Sure
pub mod Writing
