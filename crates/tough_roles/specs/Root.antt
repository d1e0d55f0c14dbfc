-- Roots: their keys, their roles, and which JSON is one (TUF specification 1.0, section 4.3).
use Rattle.std.specs.Prelude.{◌≡◌, ℕ, List, [], ◌∷◌, map, Bool, true, is_none, Option, Some, None, option_and_then, codes, if◌then◌else◌, string_bytes}
use Rattle.std.specs.Int.NonZero.{non_zero_u64_get}
use Rattle.std.specs.Str.{bytes_eq}
use Rattle.std.specs.Ordering.{nat_cmp, on}
use Rattle.std.specs.declared.cmp.Ordering.{Ordering}
use Rattle.std.specs.Cmp.Lexicographic.{slice_cmp}
use Rattle.std.specs.BTreeMap.{is_at}
use Rattle.std.specs.List.Sorted.{IsStrictlySortedBy}
use Rattle.std.specs.Map.{lookup, keys_of}
use Rattle.tough_decoded.specs.Spelled.{Spelled, hex_bytes}
use Rattle.serde_json.specs.Data.{Data, boolean, array, object, Members, no_members}
use Rattle.serde_json.specs.Find.{as_object}
use Rattle.serde_json.specs.View.{members_view}
use Rattle.tough_json.specs.Reading.{◌>>=◌, required, positive, truth, hexadecimal, listing, spelled}
use Rattle.tough_json.specs.Writing.{with, stands_for, positive_json, hexadecimal_json, all_json}
use Rattle.tough_keys.specs.declared.key.Key.{Key}
use Rattle.tough_keys.specs.Key.{KeyDoc, key_doc, key_at, key_json, key_id_of}
use Rattle.tough_roles.specs.Table.{table_from, table_json}
use Rattle.tough_roles.specs.Head.{Head, head_at, head_json}
use Rattle.tough_roles.specs.Roles.{role_type, role_name, role_cmp}
use Rattle.tough_roles.specs.declared.role_type.RoleType.{RoleType}
use Rattle.tough_roles.specs.declared.root.RoleKeys.{RoleKeys}
use Rattle.tough_roles.specs.declared.root.Root.{Root}

-- ---- plain data

-- the identifiers that a role lists, and how many of them must sign
pub record RoleKeysDoc : Type 0 where
  pub keyids : List Spelled
  pub threshold : ℕ
  pub extra : Members

-- the keys are in the order of their identifiers' bytes, the roles in that of their type
pub record RootDoc : Type 0 where
  pub head : Head
  pub consistent_snapshot : Bool
  pub keys : List (Spelled × KeyDoc)
  pub roles : List (RoleType × RoleKeysDoc)
  pub extra : Members

abbrev pub role_keys_doc : RoleKeys → RoleKeysDoc
role_keys_doc r = record { keyids = r.keyids.items; threshold = non_zero_u64_get r.threshold; extra = members_view r._extra.entries }

abbrev pub roles_doc : List (RoleType × RoleKeys) → List (RoleType × RoleKeysDoc)
roles_doc es = map (λ e. (e.0, role_keys_doc e.1)) es

abbrev pub keys_doc : List (Spelled × Key) → List (Spelled × KeyDoc)
keys_doc es = map (λ e. (e.0, key_doc e.1)) es

abbrev pub root_doc : Root → RootDoc
root_doc r = record {
  head = record { spec_version = string_bytes r.spec_version; version = non_zero_u64_get r.version; expires = r.expires.nanosecond };
  consistent_snapshot = r.consistent_snapshot;
  keys = keys_doc r.keys.entries;
  roles = roles_doc r.roles.entries;
  extra = members_view r._extra.entries;
}

-- ---- the keys

-- the order of a map by identifiers: that of their bytes
abbrev pub by_bytes : Spelled → Spelled → Ordering
by_bytes = on (λ s. s.bytes) (slice_cmp nat_cmp)

-- the key of an identifier
abbrev pub key_under : List (Spelled × KeyDoc) → Spelled → Option KeyDoc
key_under found id = lookup (is_at (by_bytes id)) found

-- the value, where its identifier is that one
abbrev pub if_own : {A : Type 0} → Option (List ℕ) → List ℕ → A → Option A
if_own None id a = None
if_own (Some own) id a = if bytes_eq own id then Some a else None

-- a member as a key under its own identifier
unfoldable pub key_entry_at : List ℕ → Data → Option (Spelled × KeyDoc)
key_entry_at name d = do
  id ← spelled hex_bytes name
  key ← key_at d
  if_own (key_id_of key) id.bytes (id, key)

-- the members as keys, each under an identifier that isn't there yet
abbrev pub keys_from : List (Spelled × KeyDoc) → Members → Option (List (Spelled × KeyDoc))
keys_from = table_from is_none by_bytes key_entry_at

abbrev pub keys_at : Data → Option (List (Spelled × KeyDoc))
keys_at d = option_and_then (keys_from []) (as_object d)

-- an identifier as it was spelled, which stands for its bytes, as that of each value of the program does
abbrev pub id_name : Spelled → Option (List ℕ)
id_name id = if stands_for (hex_bytes id.spelling) id.bytes then Some id.spelling else None

-- each key under its identifier
abbrev pub keys_json : List (Spelled × KeyDoc) → Members → Option Members
keys_json = table_json id_name key_json

-- ---- the roles

unfoldable pub role_keys_at : Data → Option RoleKeysDoc
role_keys_at d = do
  members ← as_object d
  keyids ← required (codes "keyids") (listing hexadecimal) members
  threshold ← required (codes "threshold") positive keyids.1
  Some (record { keyids = keyids.0; threshold = threshold.0; extra = threshold.1 })

unfoldable pub role_keys_json : RoleKeysDoc → Option Data
role_keys_json r = do
  value ← positive_json r.threshold
  threshold ← with (codes "threshold") value r.extra
  items ← all_json hexadecimal_json r.keyids
  members ← with (codes "keyids") (array items) threshold
  Some (object members)

-- a member is a role of that name, and its keys
unfoldable pub role_entry_at : List ℕ → Data → Option (RoleType × RoleKeysDoc)
role_entry_at name d = do
  type ← role_type name
  keys ← role_keys_at d
  Some (type, keys)

-- the members as roles; no role stands twice, since no name does
abbrev pub roles_from : List (RoleType × RoleKeysDoc) → Members → Option (List (RoleType × RoleKeysDoc))
roles_from = table_from (λ there. true) role_cmp role_entry_at

abbrev pub roles_at : Data → Option (List (RoleType × RoleKeysDoc))
roles_at d = option_and_then (roles_from []) (as_object d)

-- each role under its name
abbrev pub roles_json : List (RoleType × RoleKeysDoc) → Members → Option Members
roles_json = table_json (λ role. Some (role_name role)) role_keys_json

-- ---- the root

unfoldable pub root_at : Data → Option RootDoc
root_at d = do
  members ← as_object d
  head ← head_at members
  consistent ← required (codes "consistent_snapshot") truth head.1
  keys ← required (codes "keys") keys_at consistent.1
  roles ← required (codes "roles") roles_at keys.1
  Some (record { head = head.0; consistent_snapshot = consistent.0; keys = keys.0; roles = roles.0; extra = roles.1 })

-- the members with the keys and the roles
unfoldable pub tables_json : RootDoc → Members → Option Members
tables_json r members = do
  listed ← roles_json r.roles no_members
  roles ← with (codes "roles") (object listed) members
  known ← keys_json r.keys no_members
  with (codes "keys") (object known) roles

unfoldable pub root_json : RootDoc → Option Data
root_json r = do
  keys ← tables_json r r.extra
  consistent ← with (codes "consistent_snapshot") (boolean r.consistent_snapshot) keys
  members ← head_json (codes "root") r.head consistent
  Some (object members)

-- each key stands under its own identifier, as in each root that was read
abbrev pub AreOwn : List (Spelled × KeyDoc) → Type 0
AreOwn [] = Unit {0}
AreOwn (e ∷ es) = (key_id_of e.1 ≡ Some e.0.bytes) × AreOwn es

-- the keys are in the order of their identifiers' bytes, the roles in that of their type, as in each root of the program
pub record AreOrdered (r : RootDoc) : Type 0 where
  pub keys_rise : IsStrictlySortedBy by_bytes (keys_of r.keys)
  pub roles_rise : IsStrictlySortedBy role_cmp (keys_of r.roles)
