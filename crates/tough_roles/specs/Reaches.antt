-- When signatures reach a role's threshold: a set of identifiers, each listed, each with a key, and each beside a
-- signature that verifies over the text by that key (TUF specification 1.0, section 4.3: "a threshold number of keys").
use Rattle.std.specs.Prelude.{◌≡◌, ◌≤◌, ℕ, List, [], ◌∷◌, length, Some, true, ◌⊎◌}
use Rattle.std.specs.List.{AllByRecursion, IsDistinct}
use Rattle.std.specs.Str.{bytes_eq}
use Rattle.tough_keys.specs.Same.{KeyData, Verifies}
use Rattle.tough_roles.specs.Signature.{SignatureDoc}
use Rattle.tough_roles.specs.Policy.{Policy}

-- x stands in the list
abbrev pub IsAmong : {X : Type 0} → X → List X → Type 0
IsAmong x [] = ⊥
IsAmong x (y ∷ ys) = (y ≡ x) ⊎ IsAmong x ys

-- the identifier is listed with a key, and stands beside a signature that verifies by it
pub record IsSigner (verifies : Verifies) (p : Policy) (text : List ℕ) (signatures : List SignatureDoc) (id : List ℕ) : Type 0 where
  pub key : KeyData
  pub listed : IsAmong (id, Some key) p.keys
  pub signature : SignatureDoc
  pub stands : IsAmong signature signatures
  pub beside : signature.keyid.bytes ≡ id
  pub verified : verifies key text signature.sig.bytes ≡ true

-- no identifier stands twice among the signatures
abbrev pub AreOnce : List SignatureDoc → Type 0
AreOnce [] = Unit {0}
AreOnce (s ∷ ss) = AllByRecursion (λ t. t.keyid.bytes ≡ s.keyid.bytes → ⊥) ss × AreOnce ss

-- at least threshold different identifiers have signed
pub record Reaches (verifies : Verifies) (p : Policy) (text : List ℕ) (signatures : List SignatureDoc) : Type 0 where
  pub once : AreOnce signatures
  pub ids : List (List ℕ)
  pub distinct : IsDistinct bytes_eq ids
  pub signers : AllByRecursion (IsSigner verifies p text signatures) ids
  pub enough : p.threshold ≤ length ids
