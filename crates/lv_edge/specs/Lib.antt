pub mod Adapters
pub mod Causes
pub mod Held
pub mod Streams
