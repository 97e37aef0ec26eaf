pub mod Instantiate
pub mod Normal
pub mod Replace
pub mod Shift
pub mod Tables
