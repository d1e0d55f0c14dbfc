-- Which documents an editor takes for a role (TUF specification 1.0, sections 4.5, 5.3 and 5.6).
use Rattle.std.specs.Prelude.{◌≡◌, ◌⊎◌, ◌≤◌, ◌<◌, ⊤, ℕ, List, true, false, is_some, Option, Some, None, option_map, Result, String, string_bytes}
use Rattle.std.specs.declared.alloc.Global.{Global}
use Rattle.tough_keys.specs.Same.{Verifies}
use Rattle.tough_roles.specs.Chain.{ReachesUnder, text_by}
use Rattle.tough_roles.specs.Policy.{policy}
use Rattle.tough_roles.specs.Root.{RootDoc}
use Rattle.tough_roles.specs.Signature.{signatures_doc, signed_doc}
use Rattle.tough_roles.specs.Verdict.{Refused, MissingRole, RoleNotFound, verdict, IsRefusal}
use Rattle.tough_roles.specs.declared.error.Error.{Error as Fault}
use Rattle.tough_roles.specs.declared.error.Error.TheVariants as faults
use Rattle.tough_roles.specs.declared.role_type.RoleType.TheVariants as types
use Rattle.tough_roles.specs.declared.signed.Signed.{Signed}
use Rattle.tough_schema.specs.Delegations.{DelegationsDoc}
use Rattle.tough_schema.specs.Seek.{sought, document_of, parent}
use Rattle.tough_schema.specs.Verify.{delegated_policy, ReachesDelegated}
use Rattle.tough_schema.specs.Whole.{TreeDoc, tree, DelegationsTree, HeldDoc}
use Rattle.tough_schema.specs.declared.targets.Targets.{Targets}
use Rattle.tough_error.specs.declared.error.Error.{Error}
use Rattle.tough_error.specs.declared.error.Error.TheVariants as wide
use Rattle.tough_release.specs.Closing.{IsNoMemory, IsLost}
use Rattle.tough_release.specs.Files.{json_of_targets}
use Rattle.tough_release.specs.Holding.{is_top, delegations_top}

-- ---- signatures

-- the refusal of a document's signatures, told of the role; want of memory says nothing
abbrev pub IsUnverified : List ℕ → Result (Unit {0}) Refused → Error → Type 0
IsUnverified name v (wide.VerifyRoleMetadata role source) = (string_bytes role ≡ name) × IsNoMemory source × IsRefusal source v
IsUnverified name v wide.Memory = ⊤
IsUnverified name v _ = ⊥

abbrev pub unverified_as : String Global → Fault → Error
unverified_as name faults.Memory = wide.Memory
unverified_as name source = wide.VerifyRoleMetadata name source

-- the document reaches the threshold of the role under these delegations
abbrev pub IsVouchedBy : Verifies → DelegationsDoc → List ℕ → Signed Targets → Type 0
IsVouchedBy v g name s = ReachesDelegated v g name json_of_targets (signed_doc (λ x. x) s)

abbrev pub verdict_by : Verifies → DelegationsDoc → List ℕ → Signed Targets → Result (Unit {0}) Refused
verdict_by v g name s = verdict v (RoleNotFound name) types.Targets (delegated_policy g name) (text_by json_of_targets s.signed) (signatures_doc s.signatures.items)

-- the same of the top-level targets, under the root
abbrev pub IsVouchedByRoot : Verifies → RootDoc → Signed Targets → Type 0
IsVouchedByRoot v root s = ReachesUnder v root types.Targets json_of_targets (signed_doc (λ x. x) s)

abbrev pub verdict_by_root : Verifies → RootDoc → Signed Targets → Result (Unit {0}) Refused
verdict_by_root v root s = verdict v (MissingRole types.Targets) types.Targets (policy root types.Targets) (text_by json_of_targets s.signed) (signatures_doc s.signatures.items)

-- ---- a new document of a role

-- the role or its document is missing, for a cause that isn't want of memory
abbrev pub IsMissing : List ℕ → (Fault → Type 0) → Error → Type 0
IsMissing name cause (wide.DelegateMissing role source) = (string_bytes role ≡ name) × IsNoMemory source × cause source
IsMissing name cause wide.Memory = ⊤
IsMissing name cause _ = ⊥

abbrev pub missing_as : String Global → Fault → Error
missing_as name faults.Memory = wide.Memory
missing_as name source = wide.DelegateMissing name source

-- of a role below the targets, whose old document is this: the delegations vouch for it in which the role stands
pub record IsVouchedBelow (v : Verifies) (t : TreeDoc) (name : List ℕ) (s : Signed Targets) (old : TreeDoc) : Type 0 where
  pub delegations : DelegationsTree
  pub under : parent name t ≡ Some delegations
  pub document : HeldDoc
  pub held : document_of (sought name t) ≡ Some document
  pub is : old ≡ document.below
  pub reached : IsVouchedBy v (delegations_top delegations) name s

-- of the targets themselves: the root does
abbrev pub IsVouched : Verifies → RootDoc → TreeDoc → List ℕ → Signed Targets → TreeDoc → Type 0
IsVouched v root t name s old = ((is_top name ≡ true) × (old ≡ t) × IsVouchedByRoot v root s) ⊎ ((is_top name ≡ false) × IsVouchedBelow v t name s old)

-- there is no such role, or no document of it; or the delegations in which it stands don't vouch for the new one
abbrev pub IsUnvouchedBelow : Verifies → TreeDoc → List ℕ → Signed Targets → Error → Type 0
IsUnvouchedBelow v t name s w = IsMissing name (IsLost name t) w ⊎ ((g : DelegationsTree) × (parent name t ≡ Some g) × (is_some (document_of (sought name t)) ≡ true) × IsUnverified name (verdict_by v (delegations_top g) name s) w)

abbrev pub IsUnvouched : Verifies → RootDoc → TreeDoc → List ℕ → Signed Targets → Error → Type 0
IsUnvouched v root t name s w =
    (w ≡ wide.Memory) ⊎ (((is_top name ≡ true) × IsUnverified name (verdict_by_root v root s) w) ⊎ ((is_top name ≡ false) × IsUnvouchedBelow v t name s w))

-- ---- its version and its delegations

abbrev pub version_of : TreeDoc → ℕ
version_of (tree o bs) = o.head.version

abbrev pub delegations_in : TreeDoc → Option DelegationsTree
delegations_in (tree o bs) = option_map (λ ks. let g : DelegationsTree = (ks, bs) in g) o.keys

-- the document is no older, and has delegations
pub record IsNewer (old new : TreeDoc) : Type 0 where
  pub version : version_of old ≤ version_of new
  pub delegations : is_some (delegations_in new) ≡ true

-- it is older, or has no delegations; want of memory says nothing
abbrev pub IsNoNewer : TreeDoc → TreeDoc → Error → Type 0
IsNoNewer old new (wide.VersionMismatch role fetched expected) = (role ≡ types.Targets) × (fetched ≡ version_of new) × (expected ≡ version_of old) × (version_of new < version_of old)
IsNoNewer old new wide.NoDelegations = (version_of old ≤ version_of new) × (delegations_in new ≡ None)
IsNoNewer old new wide.Memory = ⊤
IsNoNewer old new _ = ⊥

-- ---- a document of a new role

-- the delegations that list it vouch for it
pub record IsTakable (v : Verifies) (t : TreeDoc) (name : List ℕ) (s : Signed Targets) : Type 0 where
  pub delegations : DelegationsTree
  pub there : delegations_in t ≡ Some delegations
  pub reached : IsVouchedBy v (delegations_top delegations) name s

-- there are none, or they don't
abbrev pub IsUntakable : Verifies → TreeDoc → List ℕ → Signed Targets → Error → Type 0
IsUntakable v t name s w =
    (w ≡ wide.Memory)
    ⊎ (((w ≡ wide.NoDelegations) × (delegations_in t ≡ None)) ⊎ ((g : DelegationsTree) × (delegations_in t ≡ Some g) × IsUnverified name (verdict_by v (delegations_top g) name s) w))
