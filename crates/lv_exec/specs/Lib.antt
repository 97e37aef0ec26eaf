pub mod Setting
pub mod Symbols
