pub mod Behind
pub mod Scopes
pub mod Seen
