pub mod formers
pub mod Bytes
pub mod Spelling
pub mod Faults
pub mod Reading
pub mod Reader
pub mod Writing
pub mod Laws
