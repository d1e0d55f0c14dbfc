pub mod Course
pub mod Walking
pub mod Extending
pub mod Documents
pub mod Adding
pub mod Telling
pub mod Finding
pub mod Fetching
