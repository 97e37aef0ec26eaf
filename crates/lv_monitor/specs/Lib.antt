pub mod Conditions
pub mod Naming
pub mod Updates
