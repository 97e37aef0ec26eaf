pub mod Found
pub mod NumberLaws
pub mod StructureSteps
pub mod TupleLaws
