pub mod Choices
pub mod Elements
pub mod EqualitiesHold
pub mod Few
pub mod Law
pub mod Rise
