pub mod Answers
pub mod Fairness
pub mod Fits
pub mod Play
pub mod Rows
pub mod Run
