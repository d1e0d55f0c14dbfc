-- Who holds the keys of a role: a root, for the top-level roles, or delegations, for the roles that they list (TUF specification 1.0, sections 4.3
-- and 4.5).
use Rattle.std.specs.Prelude.{List, Bool, true, false, ◌&&◌, not, Option, None, option_map}
use Rattle.std.specs.BTreeMap.{is_at}
use Rattle.std.specs.Map.{lookup}
use Rattle.tough_keys.specs.Key.{KeyDoc}
use Rattle.tough_roles.specs.Roles.{role_cmp}
use Rattle.tough_roles.specs.RoleId.{RoleIdDoc, standard, delegated}
use Rattle.tough_roles.specs.Root.{RootDoc, RoleKeysDoc, root_doc}
use Rattle.tough_schema.specs.Delegations.{DelegationsDoc, delegations_doc}
use Rattle.tough_schema.specs.Verify.{role_named, role_keys}
use Rattle.tough_schema.specs.declared.key_holder.KeyHolder.{KeyHolder}
use Rattle.tough_schema.specs.declared.key_holder.KeyHolder.TheVariants as holders
use Rattle.tough_sign.specs.Making.{Known, has_signer}

pub data HolderDoc : Type 0 where
  by_root : RootDoc → HolderDoc
  by_delegations : DelegationsDoc → HolderDoc

abbrev pub holder_doc : KeyHolder → HolderDoc
holder_doc (holders.Root r) = by_root (root_doc r)
holder_doc (holders.Delegations g) = by_delegations (delegations_doc g)

-- the keys, in the order of their identifiers
abbrev pub known_of : HolderDoc → Known
known_of (by_root r) = r.keys
known_of (by_delegations g) = g.keys

-- which keys sign the role; none where the holder hasn't the role, or is of the other kind
abbrev pub keys_for : HolderDoc → RoleIdDoc → Option RoleKeysDoc
keys_for (by_root r) (standard type) = lookup (is_at (role_cmp type)) r.roles
keys_for (by_root r) (delegated name) = None
keys_for (by_delegations g) (standard type) = None
keys_for (by_delegations g) (delegated name) = option_map role_keys (role_named name g.roles)

abbrev pub is_root : HolderDoc → Bool
is_root (by_root r) = true
is_root (by_delegations g) = false

-- the role is one that a root holds, and the holder is a root
abbrev pub is_of_root : HolderDoc → RoleIdDoc → Bool
is_of_root (by_root r) (standard type) = true
is_of_root (by_root r) (delegated name) = false
is_of_root (by_delegations g) id = false

-- the holder is a root, and no signer has a key of it
abbrev pub are_strangers : {S : Type 0} → (S → KeyDoc) → HolderDoc → List S → Bool
are_strangers key_of holder signers = is_root holder && not (has_signer key_of (known_of holder) signers)
