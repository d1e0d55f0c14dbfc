pub mod Verifying
pub mod Secrets
pub mod SigningKeys
