-- A root that lists no keys yet (TUF specification 1.0, section 4.3).
use Rattle.std.specs.Prelude.{ℤ, List, [], ◌∷◌, true, codes}
use Rattle.serde_json.specs.Data.{no_members}
use Rattle.tough_roles.specs.Root.{RootDoc, RoleKeysDoc}
use Rattle.tough_roles.specs.declared.role_type.RoleType.{RoleType}
use Rattle.tough_roles.specs.declared.role_type.RoleType.TheVariants as types

abbrev pub no_keys : RoleKeysDoc
no_keys = record { keyids = []; threshold = 1; extra = no_members }

-- the four roles that each root has, in their order
abbrev pub no_roles_keys : List (RoleType × RoleKeysDoc)
no_roles_keys = (types.Root, no_keys) ∷ (types.Snapshot, no_keys) ∷ (types.Targets, no_keys) ∷ (types.Timestamp, no_keys) ∷ []

-- version 1 of the root, which expires then
abbrev pub empty_root : ℤ → RootDoc
empty_root expires = record {
  head = record { spec_version = codes "1.0.0"; version = 1; expires = expires };
  consistent_snapshot = true;
  keys = [];
  roles = no_roles_keys;
  extra = no_members;
}
