pub mod Answers
pub mod Calls
pub mod Chains
pub mod ErrorTexts
pub mod Refusals
pub mod Requests
