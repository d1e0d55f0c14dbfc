pub mod lemmas
pub mod Keeping
pub mod Joining
pub mod Safe
pub mod Cleaned
pub mod Alone
pub mod Greedy
pub mod Retry
pub mod Texts
pub mod Begins
pub mod Spelled
pub mod Read
pub mod Unreserved
mod Kept
mod Seeking
