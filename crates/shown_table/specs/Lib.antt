pub mod Shown
pub mod Right
pub mod Came
pub mod Made
