pub mod Served
pub mod Steps
pub mod Devices
pub mod Growing
pub mod Keepers
pub mod Lives
