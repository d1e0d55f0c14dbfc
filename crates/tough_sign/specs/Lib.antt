pub mod Pretty
pub mod Making
pub mod Signers
pub mod Files
pub mod Listing
pub mod Laying
