pub mod Bare
pub mod Indexed
pub mod Dressed
