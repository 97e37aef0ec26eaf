pub mod Lassos
pub mod Reading
pub mod Shown
