pub mod EachLaw
pub mod FitsLaw
pub mod PlainLaws
