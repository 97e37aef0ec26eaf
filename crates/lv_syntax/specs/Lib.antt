pub mod Behind
pub mod Groups
pub mod Parameters
pub mod Reader
pub mod SectionsSeen
