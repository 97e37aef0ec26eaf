pub mod FitsFacts
pub mod LookupLaws
pub mod NameLaws
