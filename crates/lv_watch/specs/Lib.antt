pub mod Values
pub mod Trail
pub mod Visit
pub mod Lists
pub mod Watching
