-- Facts about trees that grow.
pub mod Levels
pub mod Once
pub mod Under
pub mod Listed
pub mod Indexed
pub mod Full
pub mod Tallied
pub mod Kept
pub mod Trees
pub mod Standing
pub mod Placed
pub mod Laws
