pub mod Machine
pub mod Seen
pub mod Tree
pub mod View
