pub mod Chain
pub mod Formulas
