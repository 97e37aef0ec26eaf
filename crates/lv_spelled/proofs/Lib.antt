pub mod Actions
pub mod Again
pub mod Entries
pub mod LassoRead
pub mod LassoSpelled
pub mod Read
pub mod Spelled
pub mod Symbols
