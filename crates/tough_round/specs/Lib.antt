pub mod Roles
pub mod Files
pub mod Loading
