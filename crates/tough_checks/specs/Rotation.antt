-- Whether the keys of timestamp or snapshot were rotated (TUF specification 1.0, section 5.3.11): their lists of keys differ in order or
-- content. Thresholds aren't compared.
use Rattle.std.specs.Prelude.{List, [], ◌∷◌, Option, Some, None, Bool, true, false, not, ◌&&◌, ◌||◌}
use Rattle.std.specs.BTreeMap.{is_at}
use Rattle.std.specs.Map.{lookup}
use Rattle.tough_decoded.specs.Spelled.{Spelled}
use Rattle.tough_keys.specs.Key.{KeyDoc}
use Rattle.tough_keys.specs.Equal.{same_doc}
use Rattle.tough_roles.specs.Keyring.{keys_along}
use Rattle.tough_roles.specs.Roles.{role_cmp}
use Rattle.tough_roles.specs.Root.{RootDoc, RoleKeysDoc, key_under}
use Rattle.tough_roles.specs.Signature.{SignedDoc}
use Rattle.tough_roles.specs.declared.role_type.RoleType.{RoleType}
use Rattle.tough_roles.specs.declared.role_type.RoleType.TheVariants as role

-- the key of the first identifier
abbrev pub key_in : List (Spelled × KeyDoc) → List Spelled → Option KeyDoc
key_in keys [] = None
key_in keys (id ∷ ids) = key_under keys id

abbrev pub ids_of : Option RoleKeysDoc → List Spelled
ids_of None = []
ids_of (Some r) = r.keyids

-- the list of a role's keys
abbrev pub keys_in : RootDoc → RoleType → List KeyDoc
keys_in root type = keys_along root.keys (ids_of (lookup (is_at (role_cmp type)) root.roles))

abbrev pub same_keys : List KeyDoc → List KeyDoc → Bool
same_keys [] [] = true
same_keys (k ∷ ks) (j ∷ js) = same_doc k j && same_keys ks js
same_keys _ _ = false

abbrev pub is_rotated_role : RootDoc → RootDoc → RoleType → Bool
is_rotated_role old new type = not (same_keys (keys_in old type) (keys_in new type))

abbrev pub is_rotated : RootDoc → RootDoc → Bool
is_rotated old new = is_rotated_role old new role.Timestamp || is_rotated_role old new role.Snapshot

-- the stored root has other lists of keys than the new one
abbrev pub rotates : Option (SignedDoc RootDoc) → RootDoc → Bool
rotates None new = false
rotates (Some old) new = is_rotated old.role new
