pub mod Feeds
pub mod Acceptance
