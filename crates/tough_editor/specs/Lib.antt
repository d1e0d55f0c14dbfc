pub mod Wide
pub mod Editors
pub mod Fetched
pub mod Adding
pub mod Taking
