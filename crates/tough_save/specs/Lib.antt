pub mod Errors
pub mod Scripts
pub mod Folders
pub mod Places
pub mod Savings
pub mod Targets
pub mod Wholes
