pub mod Grounding
pub mod Growth
pub mod Instances
pub mod Making
pub mod Marked
pub mod Positions
pub mod Settings
