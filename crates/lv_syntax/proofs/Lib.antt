pub mod BehindLaws
pub mod GroupLaws
pub mod LabelLaws
pub mod Pairs
pub mod ReadingLaw
pub mod ScopeLaws
pub mod SectionTurns
pub mod UpdateLoop
