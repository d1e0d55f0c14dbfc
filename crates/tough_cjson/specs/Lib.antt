pub mod Ascii
pub mod ByName
pub mod Canon
pub mod CanonicalText
pub mod Same
pub mod Small
