pub mod Holders
pub mod Refusals
pub mod Signing
pub mod Roles
pub mod Standing
