pub mod Editors
pub mod Files
pub mod Roots
pub mod Fetching
pub mod Placing
pub mod Verifying
pub mod Adding
pub mod Updating
