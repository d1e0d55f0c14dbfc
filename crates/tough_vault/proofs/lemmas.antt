-- Facts about this crate's definitions, for the proofs of the crates above it too.
pub mod Vouching
