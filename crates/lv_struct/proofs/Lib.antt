pub mod ChangeLaws
pub mod CompareLaws
pub mod MeaningLaws
pub mod NumberLaws
pub mod PairLaws
pub mod RangeLaws
pub mod Tabulate
pub mod TupleLaws
