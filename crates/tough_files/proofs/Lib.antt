pub mod Views
pub mod Following
pub mod Listing
pub mod Folders
mod Temps
