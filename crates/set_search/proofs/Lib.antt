pub mod SearchLemmas
pub mod PrintLemmas
pub mod ExtentLemmas
pub mod ScopeLemmas
