-- Which keys signed a root, and which still have to (TUF specification 1.0, section 5.3.4: a threshold of different keys).
use Rattle.std.specs.Prelude.{◌≡◌, ℕ, List, [], ◌∷◌, map, filter, length, Bool, not, ◌&&◌, nat_le, Some, if◌then◌else◌}
use Rattle.std.specs.Int.NonZero.{non_zero_u64_get}
use Rattle.tough_decoded.specs.Spelled.{Spelled}
use Rattle.tough_keys.specs.Same.{Verifies}
use Rattle.tough_roles.specs.Chain.{text_by, ReachesUnder}
use Rattle.tough_roles.specs.Policy.{pair_of}
use Rattle.tough_roles.specs.Root.{RootDoc, RoleKeysDoc, root_doc, root_json}
use Rattle.tough_roles.specs.Signature.{SignatureDoc, SignedDoc, signed_doc}
use Rattle.tough_roles.specs.declared.root.Root.{Root}
use Rattle.tough_roles.specs.declared.signed.Signed.{Signed}
use Rattle.tough_roles.specs.Verdict.{has_signed, some_twice}
use Rattle.tough_roles.specs.declared.role_type.RoleType.TheVariants as types
use Rattle.tough_sign.specs.Making.{Known, is_listed}
use Rattle.tough_ceremony.specs.Listing.{role_in}
use Rattle.tough_ceremony.specs.declared.tally.Tally.{Tally}

-- each identifier once
abbrev pub each_once : List Spelled → List Spelled
each_once [] = []
each_once (id ∷ ids) = if is_listed ids id then each_once ids else id ∷ each_once ids

module _ (verifies : Verifies) (known : Known) (text : List ℕ) (ss : List SignatureDoc) where
  -- a signature stands under the identifier that verifies by its key
  abbrev pub signed_by : Spelled → Bool
  signed_by id = has_signed verifies text ss (pair_of known id)

  -- the listed identifiers whose keys signed
  abbrev pub signed_of : List Spelled → List Spelled
  signed_of ids = filter signed_by (each_once ids)

  -- those whose keys still have to
  abbrev pub waiting_of : List Spelled → List Spelled
  waiting_of ids = filter (λ id. not (signed_by id)) (each_once ids)

-- ---- a tally

abbrev pub signed_in : Tally → List Spelled
signed_in t = map (λ id. id.now) t.signed.items

abbrev pub waiting_in : Tally → List Spelled
waiting_in t = map (λ id. id.now) t.waiting.items

abbrev pub threshold_in : Tally → ℕ
threshold_in t = non_zero_u64_get t.threshold

-- no two signatures stand under the same identifier
abbrev pub is_once : Tally → Bool
is_once t = t.once

-- keys under as many different identifiers signed as must, and no identifier stands twice among the signatures
abbrev pub is_reached : Tally → Bool
is_reached t = is_once t && nat_le (threshold_in t) (length (signed_in t))

-- the tally of a role's keys, of the signatures over a text
pub record IsTallyOf (verifies : Verifies) (known : Known) (asked : RoleKeysDoc) (text : List ℕ) (ss : List SignatureDoc) (t : Tally) : Type 0 where
  pub signed : signed_in t ≡ signed_of verifies known text ss asked.keyids
  pub waiting : waiting_in t ≡ waiting_of verifies known text ss asked.keyids
  pub threshold : threshold_in t ≡ asked.threshold
  pub once : is_once t ≡ not (some_twice ss)

-- the tally of the keys that the one root lists for roots, of the signatures over the other
pub record IsTally (verifies : Verifies) (by : RootDoc) (s : SignedDoc RootDoc) (t : Tally) : Type 0 where
  pub asked : RoleKeysDoc
  pub there : role_in types.Root by ≡ Some asked
  pub text : List ℕ
  pub canonical : text_by root_json s.role ≡ Some text
  pub tally : IsTallyOf verifies by.keys asked text s.signatures t

-- a client accepts the document's signatures under the root
abbrev pub IsAccepted : Verifies → Root → Signed Root → Type 0
IsAccepted verifies by s = ReachesUnder verifies (root_doc by) types.Root (λ r. root_json (root_doc r)) (signed_doc (λ r. r) s)
