pub mod AnswerLaws
pub mod Conclusions
pub mod DueLemmas
pub mod Params
pub mod Performed
pub mod Symbols
