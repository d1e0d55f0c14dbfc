-- Facts about this crate's definitions, for the proofs of the crates above it too.
pub mod Passing
pub mod Walking
pub mod Judging
pub mod Bare
pub mod Dressing
