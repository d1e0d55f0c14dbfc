-- Keys of an editor's delegations, and the identifiers that its roles list (TUF specification 1.0, section 4.5, `keys` and `keyids`).
use Rattle.std.specs.Prelude.{◌≡◌, ⊤, ℕ, List, [], ◌∷◌, ◌++◌, map, filter, not, Bool, Option, Some, None, option_map, if◌then◌else◌}
use Rattle.std.specs.List.{list_any}
use Rattle.std.specs.Str.{bytes_eq}
use Rattle.std.specs.BTreeMap.{insert_entry, is_at}
use Rattle.std.specs.Map.{remove_entry, keys_of}
use Rattle.tough_decoded.specs.Spelled.{Spelled}
use Rattle.tough_keys.specs.Key.{KeyDoc}
use Rattle.tough_keys.specs.Equal.{same_doc}
use Rattle.tough_roles.specs.Root.{by_bytes}
use Rattle.tough_schema.specs.Whole.{RoleTree}
use Rattle.tough_sign.specs.Making.{Known}
use Rattle.tough_signed.specs.declared.error.EditError.{EditError}
use Rattle.tough_signed.specs.declared.error.EditError.TheVariants as errors
use Rattle.tough_edit.specs.Edits.{EditsDoc}

-- ---- the keys

-- an equal key is there
abbrev pub has_equal : Known → KeyDoc → Bool
has_equal known key = list_any (λ e. same_doc key e.1) known

-- a key that equals none there is added
abbrev pub with_key : Known → Spelled → KeyDoc → Known
with_key known id key = if has_equal known key then known else insert_entry by_bytes known id key

-- the same of each of these, one after another
abbrev pub with_keys : Known → Known → Known
with_keys known [] = known
with_keys known (e ∷ es) = with_keys (with_key known e.0 e.1) es

-- ---- the identifiers

abbrev pub with_keyids : List Spelled → RoleTree → RoleTree
with_keyids ids r = (record r.0 { keyids = ids }, r.1)

-- the identifiers of a role of the name, and these after them
abbrev pub more_keyids : List ℕ → List Spelled → RoleTree → List Spelled
more_keyids name ids r = if bytes_eq r.0.name name then r.0.keyids ++ ids else r.0.keyids

abbrev pub with_more : List ℕ → List Spelled → RoleTree → RoleTree
with_more name ids r = with_keyids (more_keyids name ids r) r

abbrev pub without_id : Spelled → List Spelled → List Spelled
without_id id ids = filter (λ k. not (bytes_eq k.bytes id.bytes)) ids

-- the identifiers of a role of the name, without this one
abbrev pub fewer_keyids : List ℕ → Spelled → RoleTree → List Spelled
fewer_keyids name id r = if bytes_eq r.0.name name then without_id id r.0.keyids else r.0.keyids

abbrev pub with_fewer : List ℕ → Spelled → RoleTree → RoleTree
with_fewer name id r = with_keyids (fewer_keyids name id r) r

-- ---- the calls

-- these keys, and the identifiers added to each role of the name
abbrev pub with_ids : List ℕ → List Spelled → Known → EditsDoc → EditsDoc
with_ids name ids keys e = record e { keys = Some keys; old_roles = map (with_more name ids) e.old_roles; new_roles = map (with_more name ids) e.new_roles }

-- each key that equals none there is added; all their identifiers are added to each role of the name
abbrev pub key_added : Known → Option (List ℕ) → EditsDoc → EditsDoc
key_added keys None e = record e { keys = option_map (λ known. with_keys known keys) e.keys }
key_added keys (Some name) e = record e {
  keys = option_map (λ known. with_keys known keys) e.keys;
  old_roles = map (with_more name (keys_of keys)) e.old_roles;
  new_roles = map (with_more name (keys_of keys)) e.new_roles;
}

-- the identifier is removed from each old role of the name, or else from the keys
abbrev pub key_removed : Spelled → Option (List ℕ) → EditsDoc → EditsDoc
key_removed id None e = record e { keys = option_map (remove_entry (is_at (by_bytes id))) e.keys }
key_removed id (Some name) e = record e { old_roles = map (with_fewer name id) e.old_roles }

-- the document has no delegations; want of memory says nothing
abbrev pub IsUndelegated : EditsDoc → EditError → Type 0
IsUndelegated e errors.NoDelegations = e.keys ≡ None
IsUndelegated e errors.Memory = ⊤
IsUndelegated e _ = ⊥

-- ---- words of private clauses

-- each role with the identifiers at its place, if there are any
abbrev pub all_given : List RoleTree → List (List Spelled) → List RoleTree
all_given [] ls = []
all_given (r ∷ rs) [] = r ∷ all_given rs []
all_given (r ∷ rs) (l ∷ ls) = with_keyids l r ∷ all_given rs ls
