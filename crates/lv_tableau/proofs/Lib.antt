pub mod JusticeLaw
pub mod SentencesLaw
