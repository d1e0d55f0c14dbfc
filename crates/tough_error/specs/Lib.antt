pub mod Kinds
pub mod Names
