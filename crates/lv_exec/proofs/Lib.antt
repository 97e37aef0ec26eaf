pub mod PerformLaw
pub mod RangeLaw
