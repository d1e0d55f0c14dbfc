-- Facts about this crate's definitions, for the proofs of the crates above it too.
pub mod Borrowed
pub use Rattle.tough_cjson.proofs.lemmas.Computed
pub use Rattle.tough_cjson.proofs.lemmas.Exactness
pub mod Json
pub mod Each
pub mod List
pub mod MomentExists
pub mod Named
pub mod Piece
pub mod Write
pub mod Told
