pub mod Counting
pub mod Laws
pub mod Ranking
pub mod Skolems
