pub mod FormulaLaw
pub mod ItemLaws
pub mod Scopes
pub mod SystemLaw
pub mod TextLaw
pub mod Variables
