pub mod First
pub mod Fresh
pub mod Serves
pub mod Loads
