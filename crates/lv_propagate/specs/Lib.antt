pub mod Repeats
pub mod Potential
pub mod State
