pub mod Options
pub mod Lengths
pub mod Elements
pub mod Integers
pub mod Read
pub mod Fixed
pub mod Pems
