pub mod Decisions
pub mod Fragments
