-- What verifying a role answers: the first refusal whose condition holds (TUF specification 1.0, section 5.3.4 and the
-- like: a threshold of different keys must have signed).
use Rattle.std.specs.Prelude.{◌≡◌, ℕ, string_bytes, List, [], ◌∷◌, map, filter, Bool, false, ◌&&◌, ◌||◌, nat_le, if◌then◌else◌, Option, Some, None, Result, Ok, Err, ⊤}
use Rattle.std.specs.List.{list_any}
use Rattle.std.specs.Str.{bytes_eq}
use Rattle.std.specs.Set.{distinct_count}
use Rattle.tough_keys.specs.Same.{KeyData, Verifies}
use Rattle.tough_roles.specs.Signature.{SignatureDoc}
use Rattle.tough_roles.specs.Policy.{Policy}
use Rattle.tough_roles.specs.declared.role_type.RoleType.{RoleType}
use Rattle.tough_roles.specs.declared.error.Error.{Error}
use Rattle.tough_roles.specs.declared.error.Error.TheVariants as errors

pub data Refused : Type 0 where
  -- the root hasn't the role
  MissingRole : RoleType → Refused
  -- no delegated role has the name
  RoleNotFound : List ℕ → Refused
  -- a document of this kind has no canonical form
  JsonSerialization : RoleType → Refused
  -- this identifier stands twice, spelled so where it stands again first
  DuplicateKeyId : List ℕ → Refused
  -- the kind of document, the threshold, and how many have signed
  SignatureThreshold : RoleType → ℕ → ℕ → Refused

-- a signature by the key, of that identifier
abbrev pub is_by : Verifies → List ℕ → List ℕ → KeyData → SignatureDoc → Bool
is_by verifies text id key s = bytes_eq s.keyid.bytes id && verifies key text s.sig.bytes

-- the identifier has a key, and stands beside a signature that verifies by it
abbrev pub has_signed : Verifies → List ℕ → List SignatureDoc → List ℕ × Option KeyData → Bool
has_signed verifies text signatures (id, None) = false
has_signed verifies text signatures (id, Some key) = list_any (is_by verifies text id key) signatures

-- the listed identifiers that have signed
abbrev pub signers : Verifies → Policy → List ℕ → List SignatureDoc → List (List ℕ)
signers verifies p text signatures = map (λ k. k.0) (filter (has_signed verifies text signatures) p.keys)

-- how many different identifiers these are
abbrev pub signer_count : Verifies → Policy → List ℕ → List SignatureDoc → ℕ
signer_count verifies p text signatures = distinct_count bytes_eq (signers verifies p text signatures)

-- an identifier stands twice
abbrev pub some_twice : List SignatureDoc → Bool
some_twice [] = false
some_twice (s ∷ ss) = list_any (λ t. bytes_eq t.keyid.bytes s.keyid.bytes) ss || some_twice ss

-- the first identifier that stood before, beside these signatures, as it is spelled
abbrev pub again : List SignatureDoc → List SignatureDoc → List ℕ
again seen [] = []
again seen (s ∷ ss) = if list_any (λ t. bytes_eq s.keyid.bytes t.keyid.bytes) seen then s.keyid.spelling else again (s ∷ seen) ss

-- the threshold is reached, or it is refused with the count
abbrev pub counted : RoleType → ℕ → ℕ → Result Unit Refused
counted type threshold count = if nat_le threshold count then Ok tt else Err (SignatureThreshold type threshold count)

-- what is refused where the role is absent, the kind of document, the role's policy, the canonical text, and the signatures
unfoldable pub verdict : Verifies → Refused → RoleType → Option Policy → Option (List ℕ) → List SignatureDoc → Result Unit Refused
verdict verifies absent type None text signatures = Err absent
verdict verifies absent type (Some p) None signatures = Err (JsonSerialization type)
verdict verifies absent type (Some p) (Some text) signatures =
    if some_twice signatures then Err (DuplicateKeyId (again [] signatures)) else counted type p.threshold (signer_count verifies p text signatures)

-- which refusal an error is
abbrev pub refused : Error → Option Refused
refused (errors.MissingRole role) = Some (MissingRole role)
refused (errors.RoleNotFound name) = Some (RoleNotFound (string_bytes name))
refused (errors.JsonSerialization role) = Some (JsonSerialization role)
refused (errors.DuplicateKeyId keyid) = Some (DuplicateKeyId (string_bytes keyid))
refused (errors.SignatureThreshold role threshold valid) = Some (SignatureThreshold role threshold valid)
refused _ = None

abbrev pub Refuses : Option Refused → Result Unit Refused → Type 0
Refuses (Some r) v = v ≡ Err r
Refuses None v = ⊥

-- an error is the refusal; out of memory says nothing
abbrev pub IsRefusal : Error → Result Unit Refused → Type 0
IsRefusal errors.Memory v = ⊤
IsRefusal e v = Refuses (refused e) v

-- an answer is the verdict
abbrev pub Answers : {A : Type 0} → Result A Error → Result Unit Refused → Type 0
Answers (Ok a) v = v ≡ Ok tt
Answers (Err e) v = IsRefusal e v

-- nothing was refused but memory
abbrev pub IsOkOrMemory : Result Unit Error → Type 0
IsOkOrMemory (Ok u) = ⊤
IsOkOrMemory (Err errors.Memory) = ⊤
IsOkOrMemory (Err _) = ⊥
