pub mod lemmas
pub mod Setting
