pub mod Outcomes
pub mod Surveying
