pub mod BehindLaws
pub mod Fronts
pub mod Rooms
pub mod ScopeLemmas
