-- The root that an editor of a repository stands on (TUF specification 1.0, section 4.3).
use Rattle.std.specs.Prelude.{◌≡◌, ⊤, ℕ, List, length, Bool, nat_lt, Option, Some, option_and_then}
use Rattle.std.specs.List.{find}
use Rattle.tough_json.specs.Results.{json_of}
use Rattle.tough_roles.specs.Readable.{IsTextOf}
use Rattle.tough_roles.specs.Root.{RootDoc, RoleKeysDoc, root_doc, root_at}
use Rattle.tough_roles.specs.Signature.{SignedDoc, signed_doc, signed_at}
use Rattle.tough_roles.specs.declared.role_type.RoleType.{RoleType}
use Rattle.tough_roles.specs.declared.root.Root.{Root}
use Rattle.tough_roles.specs.declared.signed.Signed.{Signed}
use Rattle.tough_signed.specs.declared.error.EditError.{EditError}
use Rattle.tough_signed.specs.declared.error.EditError.TheVariants as errors

-- the bytes are JSON that is read as the root
abbrev pub IsRootOf : Signed Root → List ℕ → Type 0
IsRootOf root bytes = IsTextOf (λ d x. root_at d ≡ Some (root_doc x)) root bytes

-- the signed root that the bytes are
abbrev pub root_in : List ℕ → Option (SignedDoc RootDoc)
root_in bytes = option_and_then (signed_at root_at) (json_of bytes)

-- the bytes are read as the root, as a fact that has one proof
abbrev pub IsRootFile : Signed Root → List ℕ → Type 0
IsRootFile root bytes = ∥ root_in bytes ≡ Some (signed_doc root_doc root) ∥₁

-- the role lists fewer identifiers than its threshold
abbrev pub is_unstable : RoleType × RoleKeysDoc → Bool
is_unstable e = nat_lt (length e.1.keyids) e.1.threshold

-- the first such role
abbrev pub first_unstable : List (RoleType × RoleKeysDoc) → Option (RoleType × RoleKeysDoc)
first_unstable roles = find is_unstable roles

-- that role, with its identifiers and its threshold; want of memory says nothing
abbrev pub IsUnstable : List (RoleType × RoleKeysDoc) → EditError → Type 0
IsUnstable roles (errors.UnstableRoot role actual threshold) = (keys : RoleKeysDoc) × (first_unstable roles ≡ Some (role, keys)) × (actual ≡ length keys.keyids) × (threshold ≡ keys.threshold)
IsUnstable roles errors.Memory = ⊤
IsUnstable roles _ = ⊥
