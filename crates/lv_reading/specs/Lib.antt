pub mod Numbers
pub mod Structures
