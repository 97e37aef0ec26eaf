pub mod FirstFalseLaws
pub mod TermLaws
