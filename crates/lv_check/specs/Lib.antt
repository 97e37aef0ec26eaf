pub mod Answers
pub mod Due
pub mod Laws
pub mod Performing
