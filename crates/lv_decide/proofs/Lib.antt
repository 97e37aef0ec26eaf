pub mod Decided
pub mod SkolemForms
