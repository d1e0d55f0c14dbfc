mod Telling
mod Each
mod Wrote
mod Filled
mod ReadBack
mod Choosing
mod Listings
mod Walked
mod Named
mod Differing
pub mod Replaced
pub mod Standing
pub mod Ordered
