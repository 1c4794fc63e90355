pub mod Verdict
pub mod Answer
pub mod Ended
pub mod Headline
