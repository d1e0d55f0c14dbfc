pub mod Serving
pub mod Firsts
pub mod Phases
pub mod Alone
pub mod Fresh
pub mod Whole
pub mod Faultless
pub mod Ending
