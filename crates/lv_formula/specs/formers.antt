pub mod list
pub mod rc
