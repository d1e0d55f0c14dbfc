pub mod Making
pub mod Versions
pub mod Listing
pub mod Signing
pub mod Tallying
pub mod Refusals
