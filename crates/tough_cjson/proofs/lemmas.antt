-- Facts about this crate's definitions, for the proofs of the crates above it too.
pub mod Joining
pub mod Plain
pub mod Exactness
pub mod Computed
