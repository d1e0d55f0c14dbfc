-- What a root asks of the signatures of a role (TUF specification 1.0, section 4.3, `keyids` and `threshold`).
use Rattle.std.specs.Prelude.{ℕ, List, map, Option, option_map}
use Rattle.std.specs.BTreeMap.{is_at}
use Rattle.std.specs.Map.{lookup}
use Rattle.tough_decoded.specs.Spelled.{Spelled}
use Rattle.tough_keys.specs.Key.{KeyDoc}
use Rattle.tough_keys.specs.Same.{KeyData, data_of}
use Rattle.tough_roles.specs.Roles.{role_cmp}
use Rattle.tough_roles.specs.Root.{RootDoc, RoleKeysDoc, key_under}
use Rattle.tough_roles.specs.declared.role_type.RoleType.{RoleType}

-- how many identifiers must sign, and the listed identifiers in their order, each with what makes up its key, if it
-- has one
pub record Policy : Type 0 where
  pub threshold : ℕ
  pub keys : List (List ℕ × Option KeyData)

abbrev pub pair_of : List (Spelled × KeyDoc) → Spelled → List ℕ × Option KeyData
pair_of keys id = (id.bytes, option_map data_of (key_under keys id))

abbrev pub policy_of : List (Spelled × KeyDoc) → RoleKeysDoc → Policy
policy_of keys r = record { threshold = r.threshold; keys = map (pair_of keys) r.keyids }

-- none where the root hasn't the role
abbrev pub policy : RootDoc → RoleType → Option Policy
policy root type = option_map (policy_of root.keys) (lookup (is_at (role_cmp type)) root.roles)
