pub mod Numbered
pub mod Growing
pub mod Firsts
pub mod Documents
pub mod Placed
pub mod View
