-- Keys by their identifiers, as a root or delegations hold them (TUF specification 1.0, section 4.3, `keys` and `keyids`).
use Rattle.std.specs.Prelude.{List, [], ◌∷◌, Option, Some, None, if◌then◌else◌}
use Rattle.std.specs.BTreeMap.{is_at}
use Rattle.std.specs.Map.{lookup}
use Rattle.tough_decoded.specs.Spelled.{Spelled}
use Rattle.tough_keys.specs.declared.key.Key.{Key}
use Rattle.tough_keys.specs.Equal.{same_key}
use Rattle.tough_roles.specs.Roles.{role_cmp}
use Rattle.tough_roles.specs.Root.{by_bytes}
use Rattle.tough_roles.specs.declared.keyring.KeysIter.{KeysIter}
use Rattle.tough_roles.specs.declared.role_type.RoleType.{RoleType}
use Rattle.tough_roles.specs.declared.root.RoleKeys.{RoleKeys}
use Rattle.tough_roles.specs.declared.root.Root.{Root}

abbrev pub ahead_of : {K : Type 0} → Option K → List K → List K
ahead_of None ks = []
ahead_of (Some k) ks = k ∷ ks

-- the keys of these identifiers in their order, up to the first that has none
abbrev pub keys_along : {K : Type 0} → List (Spelled × K) → List Spelled → List K
keys_along found [] = []
keys_along found (id ∷ ids) = ahead_of (lookup (is_at (by_bytes id)) found) (keys_along found ids)

-- what the iterator has not given yet
abbrev pub keys_left : KeysIter → List Key
keys_left it = keys_along it.keys.now.entries it.keyids.now

abbrev pub listed : Option RoleKeys → List Spelled
listed None = []
listed (Some k) = k.keyids.items

-- the identifiers that the root lists for the role; none where it hasn't the role
abbrev pub listed_ids : Root → RoleType → List Spelled
listed_ids root type = listed (lookup (is_at (role_cmp type)) root.roles.entries)

-- the first identifier under which an equal key stands
abbrev pub id_of : Key → List (Spelled × Key) → Option Spelled
id_of key [] = None
id_of key (e ∷ es) = if same_key key e.1 then Some e.0 else id_of key es
