-- A root that one more holder of a key signs (TUF specification 1.0, sections 4.2 and 6.1).
use Rattle.std.specs.Prelude.{◌≡◌, ℕ, List, [], ◌∷◌, ◌++◌, map, filter, Bool, true, false, not, ◌&&◌, ◌||◌, Option, Some, None, if◌then◌else◌}
use Rattle.std.specs.List.{IsDistinct}
use Rattle.std.specs.Str.{bytes_eq}
use Rattle.tough_decoded.specs.Spelled.{Spelled}
use Rattle.tough_keys.specs.Key.{KeyDoc}
use Rattle.tough_keys.specs.Equal.{same_doc}
use Rattle.tough_roles.specs.Chain.{text_by}
use Rattle.tough_roles.specs.Root.{RootDoc, RoleKeysDoc, key_under, root_json}
use Rattle.tough_roles.specs.Signature.{SignatureDoc}
use Rattle.tough_roles.specs.declared.role_type.RoleType.TheVariants as types
use Rattle.tough_sign.specs.Making.{Known, is_listed}
use Rattle.tough_sign.specs.Listing.{in_digits}
use Rattle.tough_ceremony.specs.Listing.{role_in}

-- ---- under which identifiers a holder signs

abbrev pub listed_by : Option RoleKeysDoc → List Spelled
listed_by None = []
listed_by (Some k) = k.keyids

-- the identifiers that the root lists for roots
abbrev pub root_ids : RootDoc → List Spelled
root_ids r = listed_by (role_in types.Root r)

abbrev pub equals : KeyDoc → Option KeyDoc → Bool
equals key None = false
equals key (Some k) = same_doc k key

-- an equal key stands under the identifier
abbrev pub is_of : Known → KeyDoc → Spelled → Bool
is_of known key id = equals key (key_under known id)

-- the root lists the identifier for roots, and an equal key stands under it
abbrev pub lists : KeyDoc → RootDoc → Spelled → Bool
lists key r id = is_listed (root_ids r) id && is_of r.keys key id

-- the root does so, or the other one, if there is one
abbrev pub lists_in : KeyDoc → RootDoc → Option RootDoc → Spelled → Bool
lists_in key r None id = lists key r id
lists_in key r (Some old) id = lists key r id || lists key old id

-- ---- what signing adds

abbrev pub signature_under : List ℕ → Spelled → SignatureDoc
signature_under sig id = record { keyid = id; sig = in_digits sig }

-- the signatures that stand under none of the identifiers
abbrev pub others : List Spelled → List SignatureDoc → List SignatureDoc
others ids ss = filter (λ s. not (is_listed ids s.keyid)) ss

-- these in their order, and behind them this signature under each of the identifiers
abbrev pub signed_under : List Spelled → List ℕ → List SignatureDoc → List SignatureDoc
signed_under ids sig ss = others ids ss ++ map (signature_under sig) ids

-- Each identifier under which one of the roots lists the key for roots, once; there is one at least.
pub record AreIds (key : KeyDoc) (r : RootDoc) (old : Option RootDoc) (ids : List Spelled) : Type 0 where
  pub once : IsDistinct (λ i j. bytes_eq i.bytes j.bytes) ids
  pub exactly : (id : Spelled) → is_listed ids id ≡ lists_in key r old id
  pub some : (ids ≡ []) → ⊥

-- The signer's signature over the root's canonical text stands under each identifier under which one of the roots lists the signer's key for roots;
-- all other signatures stand as they stood.
pub record AreSignedBy {S : Type 0} (key_of : S → KeyDoc) (signs : S → List ℕ → List ℕ → Type 0) (signer : S) (r : RootDoc) (old : Option RootDoc) (before after : List SignatureDoc) : Type 0 where
  pub text : List ℕ
  pub canonical : text_by root_json r ≡ Some text
  pub ids : List Spelled
  pub under : AreIds (key_of signer) r old ids
  pub sig : List ℕ
  pub by : signs signer text sig
  pub put : after ≡ signed_under ids sig before

-- Each identifier that this root lists for roots, and under which the signer signs, has the signer's key here too.
abbrev pub Agrees : KeyDoc → RootDoc → RootDoc → Option RootDoc → Type 0
Agrees key by r old = (id : Spelled) → is_listed (root_ids by) id ≡ true → lists_in key r old id ≡ true → lists key by id ≡ true

-- ---- words of private clauses

-- the identifier isn't there yet, and an equal key stands under it
abbrev pub is_new : Known → KeyDoc → List Spelled → Spelled → Bool
is_new known key found id = not (is_listed found id) && is_of known key id

-- each of these identifiers that isn't there yet, and under which an equal key stands, behind those that are there
abbrev pub noted : Known → KeyDoc → List Spelled → List Spelled → List Spelled
noted known key found [] = found
noted known key found (id ∷ ids) = noted known key (if is_new known key found id then found ++ id ∷ [] else found) ids

abbrev pub noted_in : KeyDoc → List Spelled → Option RootDoc → List Spelled
noted_in key found None = found
noted_in key found (Some r) = noted r.keys key found (root_ids r)
