pub mod FirstLaw
pub mod InstanceFits
pub mod Lookups
pub mod NewConstants
pub mod StepLookups
pub mod TupleLaw
pub mod VocabulariesMade
pub mod WordsMade
