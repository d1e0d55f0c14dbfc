-- The holder of the keys that signers tell, for a role that has none yet (TUF specification 1.0, section 4.5).
use Rattle.std.specs.Prelude.{◌≡◌, ℕ, List, [], ◌∷◌, map, false, Option, Some, None, option_map, ◌⊎◌}
use Rattle.std.specs.List.{Any}
use Rattle.std.specs.BTreeMap.{insert_entry}
use Rattle.tough_decoded.specs.Spelled.{Spelled}
use Rattle.tough_keys.specs.Key.{KeyDoc, key_doc, key_id_of}
use Rattle.tough_roles.specs.Root.{by_bytes}
use Rattle.tough_schema.specs.Paths.{patterns}
use Rattle.tough_sign.specs.Listing.{in_digits}
use Rattle.tough_sign.specs.Making.{Known}
use Rattle.tough_sign.specs.Signers.{SomeFails, key_in}
use Rattle.tough_sign.specs.declared.signers.KeyedSigner.{KeyedSigner}
use Rattle.tough_signed.specs.Holders.{HolderDoc, by_delegations}
use Rattle.tough_signed.specs.Refusals.{IsFailure}
use Rattle.tough_signed.specs.declared.error.EditError.{EditError}
use Rattle.tough_signed.specs.declared.error.EditError.TheVariants as errors
use Rattle.tough_edit.specs.Edits.{EditsDoc}

-- the key's own identifier, in lower-case digits
abbrev pub own_id : KeyDoc → Option Spelled
own_id key = option_map in_digits (key_id_of key)

-- each key has an identifier of its own: these
abbrev pub AreIds : List KeyDoc → List Spelled → Type 0
AreIds keys ids = map own_id keys ≡ map (λ id. Some id) ids

abbrev pub put_own : Known → Option Spelled → KeyDoc → Known
put_own known None key = known
put_own known (Some id) key = insert_entry by_bytes known id key

-- the keys under their own identifiers, a later one in the place of an earlier
abbrev pub own_keys : Known → List KeyDoc → Known
own_keys known [] = known
own_keys known (k ∷ ks) = own_keys (put_own known (own_id k) k) ks

-- delegations to the one role of the name, which one of the keys signs
abbrev pub holder_of : List ℕ → List KeyDoc → List Spelled → HolderDoc
holder_of name keys ids = by_delegations (record {
  keys = own_keys [] keys;
  roles = record { name = name; keyids = ids; threshold = 1; paths = patterns []; terminating = false } ∷ [];
})

abbrev pub IsHolderOf : List ℕ → List KeyDoc → HolderDoc → Type 0
IsHolderOf name keys h = (ids : List Spelled) × AreIds keys ids × (h ≡ holder_of name keys ids)

-- who holds the keys of the document: the editor's holder, or else the holder of the signers' keys
abbrev pub IsHeldBy : EditsDoc → List KeyDoc → HolderDoc → Type 0
IsHeldBy e keys h = (e.holder ≡ Some h) ⊎ ((e.holder ≡ None) × IsHolderOf e.name keys h)

-- ---- the refusals

-- a key has no identifier; or memory was wanting
abbrev pub IsIdless : Type 0 → EditError → Type 0
IsIdless none error = (error ≡ errors.Memory) ⊎ ((error ≡ errors.JsonSerialization) × none)

-- a signer doesn't tell its key, or a key has no identifier
abbrev pub IsKeyless : {S : Type 0} → (S → KeyDoc) → (S → List ℕ → Type 0) → List S → EditError → Type 0
IsKeyless key_of fails signers error = IsFailure (SomeFails fails signers) error ⊎ IsIdless (Any (λ s. own_id (key_of s) ≡ None) signers) error

-- ---- words of private clauses

-- one of the keys that were told has no identifier
abbrev pub SomeIdless : {S : Type 0} → List (KeyedSigner S) → Type 0
SomeIdless ks = Any (λ k. own_id (key_doc (key_in k)) ≡ None) ks

abbrev pub keys_told : {S : Type 0} → List (KeyedSigner S) → List KeyDoc
keys_told ks = map (λ k. key_doc (key_in k)) ks
