pub mod Newline
pub mod Inserts
pub mod Reaching
pub mod Makings
pub mod Laying
pub mod Rereading
