pub mod Demo
pub mod Numbers
pub mod Summary
