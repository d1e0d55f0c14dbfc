pub mod Files
pub mod Documents
pub mod Versions
pub mod Checks
pub mod StoredDocuments
pub mod DocumentName
pub mod Rotation
