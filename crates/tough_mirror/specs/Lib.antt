pub mod Folder
pub mod Replacing
