pub mod formers
pub mod Literals
pub mod Propagation
pub mod Logs
pub mod Nodes
pub mod Laws
pub mod Packed
