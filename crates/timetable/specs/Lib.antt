pub mod Answer
pub mod Ended
pub mod Examples
pub mod Headline
pub mod Laws
pub mod Memory
