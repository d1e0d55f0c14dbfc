pub mod Calls
pub mod Contents
pub mod Changes
pub mod Notes
pub mod Tree
pub mod Memory
pub mod System
