-- Which signers sign a role for who holds its keys, and what they make (TUF specification 1.0, section 4.2).
use Rattle.std.specs.Prelude.{◌≡◌, ℕ, List, [], ◌∷◌, Bool, true, ◌&&◌, if◌then◌else◌, Option, Some, None, option_map, is_some, ⊤}
use Rattle.std.specs.List.{list_any, filter_map, AllByRecursion}
use Rattle.std.specs.Str.{bytes_eq}
use Rattle.tough_decoded.specs.Spelled.{Spelled}
use Rattle.tough_keys.specs.Key.{KeyDoc}
use Rattle.tough_keys.specs.Equal.{same_doc}
use Rattle.tough_keys.specs.Same.{data_of, Verifies}
use Rattle.tough_roles.specs.Signature.{SignatureDoc}

abbrev pub Known : Type 0
Known = List (Spelled × KeyDoc)

abbrev pub is_listed : List Spelled → Spelled → Bool
is_listed ids id = list_any (λ i. bytes_eq i.bytes id.bytes) ids

-- no identifier before this one has an equal key
abbrev pub is_first : Known → Spelled → KeyDoc → Bool
is_first [] id key = true
is_first (e ∷ es) id key = if same_doc key e.1 then bytes_eq e.0.bytes id.bytes else is_first es id key

abbrev pub or_before : {S : Type 0} → Option S → Option S → Option S
or_before None x = x
or_before (Some y) x = Some y

module _ {S : Type 0} (key_of : S → KeyDoc) where
  abbrev pub if_of : KeyDoc → S → Option S
  if_of key x = if same_doc key (key_of x) then Some x else None

  -- the last signer whose key equals this one
  abbrev pub last_of : KeyDoc → List S → Option S
  last_of key [] = None
  last_of key (x ∷ xs) = or_before (last_of key xs) (if_of key x)

  -- a signer has one of the keys
  abbrev pub has_signer : Known → List S → Bool
  has_signer known signers = list_any (λ e. is_some (last_of e.1 signers)) known

  -- the identifier and who signs under it, where it is listed and the first of its key
  abbrev pub pick : Known → List Spelled → List S → Spelled × KeyDoc → Option (Spelled × S)
  pick known ids signers e = if is_listed ids e.0 && is_first known e.0 e.1 then option_map (λ x. (e.0, x)) (last_of e.1 signers) else None

  -- who signs, in the order of the identifiers
  abbrev pub chosen : Known → List Spelled → List S → List (Spelled × S)
  chosen known ids signers = filter_map (pick known ids signers) known

module _ {S : Type 0} (signs : S → List ℕ → List ℕ → Type 0) (text : List ℕ) where
  abbrev pub IsMade : Option (Spelled × S) → Option SignatureDoc → Type 0
  IsMade None None = ⊤
  IsMade None (Some s) = ⊥
  IsMade (Some c) None = ⊥
  IsMade (Some c) (Some s) = (s.keyid ≡ c.0) × signs c.1 text s.sig.bytes

  -- a signature by each, under its identifier
  abbrev pub AreMade : List (Spelled × S) → List SignatureDoc → Type 0
  AreMade [] [] = ⊤
  AreMade [] (s ∷ ss) = ⊥
  AreMade (c ∷ cs) [] = ⊥
  AreMade (c ∷ cs) (s ∷ ss) = (s.keyid ≡ c.0) × signs c.1 text s.sig.bytes × AreMade cs ss

-- what these signers make verifies by their keys
abbrev pub SignWell : {S : Type 0} → Verifies → (S → KeyDoc) → (S → List ℕ → List ℕ → Type 0) → List S → Type 0
SignWell verifies key_of signs signers = AllByRecursion (λ x. (m s : List ℕ) → signs x m s → verifies (data_of (key_of x)) m s ≡ true) signers
