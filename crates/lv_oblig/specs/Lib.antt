pub mod Numbers
pub mod Sentences
