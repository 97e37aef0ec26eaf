pub mod AnswerLemmas
pub mod CallLemmas
pub mod ChainLemmas
pub mod HeadlineLemmas
pub mod ReadingLemmas
