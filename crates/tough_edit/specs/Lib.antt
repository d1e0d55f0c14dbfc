pub mod Edits
pub mod Keys
pub mod Roles
pub mod Built
pub mod Files
pub mod Signers
pub mod Signed
