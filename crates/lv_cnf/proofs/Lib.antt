pub mod Logic
pub mod LogSteps
pub mod Count
pub mod Nodes
pub mod Ranges
