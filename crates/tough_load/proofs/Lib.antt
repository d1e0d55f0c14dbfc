pub mod lemmas
pub mod Trails
pub mod Going
pub mod Loads
pub mod Trusts
pub mod Stepping
pub mod Few
