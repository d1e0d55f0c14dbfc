mod Fronts
mod Adding
mod Lined
pub mod Going
mod Beginning
mod Telling
pub mod Rising
