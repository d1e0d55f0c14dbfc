-- Why a root isn't edited, signed or tallied.
use Rattle.std.specs.Prelude.{◌≡◌, ⊤, ℕ, List, true, false, Option, Some, None, string_bytes}
use Rattle.tough_decoded.specs.Spelled.{Spelled}
use Rattle.tough_keys.specs.Key.{KeyDoc, key_id_of}
use Rattle.tough_keys.specs.declared.sign.SignError.{SignError}
use Rattle.tough_keys.specs.declared.sign.SignError.TheVariants as signs
use Rattle.tough_roles.specs.Root.{RootDoc, root_json}
use Rattle.tough_roles.specs.Chain.{text_by}
use Rattle.tough_roles.specs.declared.role_type.RoleType.{RoleType}
use Rattle.tough_roles.specs.declared.role_type.RoleType.TheVariants as types
use Rattle.tough_sign.specs.Listing.{in_digits}
use Rattle.tough_ceremony.specs.Listing.{Lists, role_in}
use Rattle.tough_ceremony.specs.Signing.{lists_in}
use Rattle.tough_ceremony.specs.declared.error.CeremonyError.{CeremonyError}
use Rattle.tough_ceremony.specs.declared.error.CeremonyError.TheVariants as errors

abbrev pub signer_error : SignError → CeremonyError
signer_error (signs.Failed reason) = errors.Signer reason
signer_error signs.Memory = errors.Memory

-- the root hasn't the role
abbrev pub IsAbsent : RoleType → RootDoc → CeremonyError → Type 0
IsAbsent type r (errors.NoRole role) = (role ≡ type) × (role_in type r ≡ None)
IsAbsent type r _ = ⊥

-- the root hasn't the role, or that lists the identifier; want of memory says nothing
abbrev pub IsTaken : RoleType → Spelled → RootDoc → CeremonyError → Type 0
IsTaken type id r (errors.NoRole role) = (role ≡ type) × (role_in type r ≡ None)
IsTaken type id r errors.AlreadyListed = Lists type id true r
IsTaken type id r errors.Memory = ⊤
IsTaken type id r _ = ⊥

-- the key has no identifier; want of memory says nothing
abbrev pub IsUnnamed : KeyDoc → CeremonyError → Type 0
IsUnnamed key errors.NoIdentifier = key_id_of key ≡ None
IsUnnamed key errors.Memory = ⊤
IsUnnamed key _ = ⊥

-- the role lists the key's identifier
pub record IsAlready (type : RoleType) (key : KeyDoc) (r : RootDoc) : Type 0 where
  pub id : List ℕ
  pub own : key_id_of key ≡ Some id
  pub listed : Lists type (in_digits id) true r

-- the key has no identifier; or else the root hasn't the role, or that lists the key's identifier; want of memory says nothing
abbrev pub IsNotListed : RoleType → KeyDoc → RootDoc → CeremonyError → Type 0
IsNotListed type key r (errors.NoRole role) = (role ≡ type) × (role_in type r ≡ None) × ((id : List ℕ) × (key_id_of key ≡ Some id))
IsNotListed type key r errors.AlreadyListed = IsAlready type key r
IsNotListed type key r errors.NoIdentifier = key_id_of key ≡ None
IsNotListed type key r errors.Memory = ⊤
IsNotListed type key r _ = ⊥

-- the root hasn't the role, or that doesn't list the identifier
abbrev pub IsNotUnlisted : RoleType → Spelled → RootDoc → CeremonyError → Type 0
IsNotUnlisted type id r (errors.NoRole role) = (role ≡ type) × (role_in type r ≡ None)
IsNotUnlisted type id r errors.NotListed = Lists type id false r
IsNotUnlisted type id r _ = ⊥

-- the root has no canonical form; want of memory says nothing
abbrev pub IsTextless : RootDoc → CeremonyError → Type 0
IsTextless r errors.Unwritable = text_by root_json r ≡ None
IsTextless r errors.Memory = ⊤
IsTextless r _ = ⊥

-- the signer gave one of these reasons; want of memory says nothing
abbrev pub IsFailure : (List ℕ → Type 0) → CeremonyError → Type 0
IsFailure fails (errors.Signer reason) = fails (string_bytes reason)
IsFailure fails errors.Memory = ⊤
IsFailure fails _ = ⊥

-- no root lists the key for roots; or else the root has no canonical form; or the signer failed for one of these reasons; want of memory says
-- nothing
abbrev pub IsUnsigned : (List ℕ → Type 0) → KeyDoc → RootDoc → Option RootDoc → CeremonyError → Type 0
IsUnsigned fails key r old errors.NotListed = (id : Spelled) → lists_in key r old id ≡ false
IsUnsigned fails key r old errors.Unwritable = ((id : Spelled) × (lists_in key r old id ≡ true)) × (text_by root_json r ≡ None)
IsUnsigned fails key r old (errors.Signer reason) = fails (string_bytes reason)
IsUnsigned fails key r old errors.Memory = ⊤
IsUnsigned fails key r old _ = ⊥

-- the one root has no keys for roots, or the other no canonical form; want of memory says nothing
abbrev pub IsUncounted : RootDoc → RootDoc → CeremonyError → Type 0
IsUncounted by r (errors.NoRole role) = (role ≡ types.Root) × (role_in types.Root by ≡ None)
IsUncounted by r errors.Unwritable = text_by root_json r ≡ None
IsUncounted by r errors.Memory = ⊤
IsUncounted by r _ = ⊥
