-- Keys that roles of a root list (TUF specification 1.0, section 4.3, `keys` and `roles`).
use Rattle.std.specs.Prelude.{◌≡◌, ℕ, List, [], ◌∷◌, ◌++◌, filter, Bool, false, not, Option, Some, if◌then◌else◌}
use Rattle.std.specs.List.{list_any}
use Rattle.std.specs.Str.{bytes_eq}
use Rattle.std.specs.BTreeMap.{insert_entry, is_at}
use Rattle.std.specs.Map.{lookup, remove_entry}
use Rattle.tough_decoded.specs.Spelled.{Spelled}
use Rattle.tough_keys.specs.Key.{KeyDoc, key_id_of}
use Rattle.tough_roles.specs.Roles.{role_cmp}
use Rattle.tough_roles.specs.Root.{RootDoc, RoleKeysDoc, by_bytes}
use Rattle.tough_roles.specs.declared.role_type.RoleType.{RoleType}
use Rattle.tough_sign.specs.Making.{is_listed}
use Rattle.tough_sign.specs.Listing.{in_digits}

abbrev pub Roles : Type 0
Roles = List (RoleType × RoleKeysDoc)

-- what the root says of the role, if it has it
abbrev pub role_in : RoleType → RootDoc → Option RoleKeysDoc
role_in type r = lookup (is_at (role_cmp type)) r.roles

-- the root has the role, and whether that lists the identifier
pub record Lists (type : RoleType) (id : Spelled) (listed : Bool) (r : RootDoc) : Type 0 where
  pub keys : RoleKeysDoc
  pub there : role_in type r ≡ Some keys
  pub is : is_listed keys.keyids id ≡ listed

-- the role as it was changed, and all others as they were
abbrev pub changed : RoleType → (RoleKeysDoc → RoleKeysDoc) → Roles → Roles
changed type f [] = []
changed type f (e ∷ es) = if is_at (role_cmp type) e.0 then (e.0, f e.1) ∷ es else e ∷ changed type f es

abbrev pub with_keyids : List Spelled → RoleKeysDoc → RoleKeysDoc
with_keyids ids k = record k { keyids = ids }

abbrev pub with_threshold : ℕ → RoleKeysDoc → RoleKeysDoc
with_threshold n k = record k { threshold = n }

-- ---- a key is listed

-- the identifier behind those that are there
abbrev pub and_listed : Spelled → RoleKeysDoc → RoleKeysDoc
and_listed id k = with_keyids (k.keyids ++ id ∷ []) k

-- the role lists the identifier too, and the key stands under it
abbrev pub listed : RoleType → Spelled → KeyDoc → RootDoc → RootDoc
listed type id key r = record r { keys = insert_entry by_bytes r.keys id key; roles = changed type (and_listed id) r.roles }

-- the role didn't list the key, and lists it now under the key's own identifier, in lower-case digits
pub record IsListed (type : RoleType) (key : KeyDoc) (old new : RootDoc) : Type 0 where
  pub id : List ℕ
  pub own : key_id_of key ≡ Some id
  pub free : Lists type (in_digits id) false old
  pub put : new ≡ listed type (in_digits id) key old

-- ---- a key is listed no longer

abbrev pub without_id : Spelled → List Spelled → List Spelled
without_id id ids = filter (λ k. not (bytes_eq k.bytes id.bytes)) ids

abbrev pub not_listed : Spelled → RoleKeysDoc → RoleKeysDoc
not_listed id k = with_keyids (without_id id k.keyids) k

-- some role lists the identifier
abbrev pub is_used : Roles → Spelled → Bool
is_used roles id = list_any (λ e. is_listed e.1.keyids id) roles

-- the keys, without the one of this identifier
abbrev pub without_key : Spelled → List (Spelled × KeyDoc) → List (Spelled × KeyDoc)
without_key id keys = remove_entry (is_at (by_bytes id)) keys

-- the role lists the identifier no longer, and its key goes where no role lists it then
abbrev pub unlisted : RoleType → Spelled → RootDoc → RootDoc
unlisted type id r =
    let roles = changed type (not_listed id) r.roles in
    record r { roles = roles; keys = if is_used roles id then r.keys else without_key id r.keys }

-- ---- a threshold is set

abbrev pub with_role_threshold : RoleType → ℕ → RootDoc → RootDoc
with_role_threshold type n r = record r { roles = changed type (with_threshold n) r.roles }
