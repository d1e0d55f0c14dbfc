-- Facts about this crate's definitions, for the proofs of the crates above it too.
pub mod Walks
pub mod Wholes
pub mod Valid
pub mod Joined
