-- The tree of documents as it grows, of the program.
pub mod Noding
pub mod Listing
pub mod Firsts
pub mod Sizing
pub mod Counted
pub mod NodeSteps
pub mod Turning
