pub mod Steps
pub mod Turns
pub mod View
pub mod Policies
pub mod Lives
