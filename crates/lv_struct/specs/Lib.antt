pub mod Changes
pub mod Compare
pub mod Numbers
pub mod Tables
pub mod Tabulation
