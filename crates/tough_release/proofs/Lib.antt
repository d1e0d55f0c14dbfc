pub mod Beginning
pub mod Standings
pub mod Sets
pub mod Closings
pub mod Makings
pub mod Adding
pub mod Delegating
