pub mod Projections
pub mod Samples
pub mod Small
pub mod TrueLabels
pub mod Walk
