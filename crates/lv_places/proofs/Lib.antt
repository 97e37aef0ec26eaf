pub mod Arguments
pub mod Marks
pub mod Numbered
pub mod Sites
pub mod Sizes
pub mod Tests
pub mod Universes
