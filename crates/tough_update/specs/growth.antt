pub mod Once
pub mod Under
pub mod Listed
pub mod Indexed
pub mod Full
pub mod Tallies
