pub mod AnswerLemmas
pub mod HeadlineLemmas
