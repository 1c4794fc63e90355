pub mod AnswerLemmas
pub mod LawLemmas
pub mod ShownAgain
pub mod HeadlineLemmas
pub mod MemoryLemmas
pub mod OrderExample
pub mod ExampleLemmas
