-- Facts about this crate's definitions, for the proofs of the crates above it too.
pub mod Copies
pub mod Entry
pub mod Head
pub mod Reached
pub mod Rereading
pub mod Rising
pub mod Root
pub mod Table
pub mod Tables
pub mod Timestamp
pub mod Verdicts
pub mod Written
pub mod Signed
pub mod Metafiles
