pub mod Lists
pub mod Told
pub mod Opening
pub mod Adding
pub mod Standings
