-- Keys and roles that are written one after another.
use Rattle.std.proofs.Common.{◌≡◌, ℕ, List, [], ◌∷◌, Option, Some, None, true, if◌then◌else◌, codes, map, refl, ap}
use Rattle.std.specs.Map.{keys_of}
use Rattle.std.proofs.lemmas.Slice.Eq.{bytes_eq-Decides}
use Rattle.tough_decoded.specs.Spelled.{Spelled, hex_bytes}
use Rattle.serde_json.specs.Data.{Data, Members, boolean, object}
use Rattle.tough_json.specs.Writing.{with, stands_for}
use Rattle.tough_json.proofs.lemmas.Write.{some-inj}
use Rattle.tough_keys.specs.Key.{KeyDoc, key_json}
use Rattle.tough_roles.specs.Table.{table_json}
use Rattle.tough_roles.specs.Roles.{role_name}
use Rattle.tough_roles.specs.Head.{head_json}
use Rattle.tough_roles.specs.Root.{RoleKeysDoc, RootDoc, role_keys_json, roles_json, id_name, keys_json, tables_json, root_json}
use Rattle.tough_roles.specs.declared.role_type.RoleType.{RoleType}

pub roles_json-refused : (e : RoleType × RoleKeysDoc) (es : List (RoleType × RoleKeysDoc)) (found : Members) → role_keys_json e.1 ≡ None → roles_json (e ∷ es) found ≡ None
unfolding table_json
roles_json-refused e es found h = rw h refl

pub roles_json-taken : (e : RoleType × RoleKeysDoc) (es : List (RoleType × RoleKeysDoc)) (found : Members) (d : Data) → role_keys_json e.1 ≡ Some d → with (role_name e.0) d found ≡ None → roles_json (e ∷ es) found ≡ None
unfolding table_json
roles_json-taken e es found d h w = rw (h, w) refl

pub roles_json-more : (e : RoleType × RoleKeysDoc) (es : List (RoleType × RoleKeysDoc)) (found more : Members) (d : Data) → role_keys_json e.1 ≡ Some d → with (role_name e.0) d found ≡ Some more → roles_json (e ∷ es) found ≡ roles_json es more
unfolding table_json
roles_json-more e es found more d h w = rw (h, w) refl

pub roles_json-done : (found : Members) → roles_json [] found ≡ Some found
unfolding table_json
roles_json-done found = refl

stands : (bytes : List ℕ) (o : Option (List ℕ)) → o ≡ Some bytes → stands_for o bytes ≡ true
stands bytes None h = cc
stands bytes (Some b) h = (bytes_eq-Decides b bytes).1 (some-inj h)

pub id_name-is : (id : Spelled) → hex_bytes id.spelling ≡ Some id.bytes → id_name id ≡ Some id.spelling
id_name-is id h = ap (λ t. if t then Some id.spelling else None) (stands id.bytes (hex_bytes id.spelling) h)

pub keys_json-refused : (e : Spelled × KeyDoc) (es : List (Spelled × KeyDoc)) (found : Members) → key_json e.1 ≡ None → keys_json (e ∷ es) found ≡ None
unfolding table_json
keys_json-refused e es found h = rw h refl

pub keys_json-taken : (e : Spelled × KeyDoc) (es : List (Spelled × KeyDoc)) (found : Members) (d : Data) → key_json e.1 ≡ Some d → hex_bytes e.0.spelling ≡ Some e.0.bytes → with e.0.spelling d found ≡ None → keys_json (e ∷ es) found ≡ None
unfolding table_json
keys_json-taken e es found d h s w = rw (h, id_name-is e.0 s, w) refl

pub keys_json-more : (e : Spelled × KeyDoc) (es : List (Spelled × KeyDoc)) (found more : Members) (d : Data) → key_json e.1 ≡ Some d → hex_bytes e.0.spelling ≡ Some e.0.bytes → with e.0.spelling d found ≡ Some more → keys_json (e ∷ es) found ≡ keys_json es more
unfolding table_json
keys_json-more e es found more d h s w = rw (h, id_name-is e.0 s, w) refl

pub keys_json-done : (found : Members) → keys_json [] found ≡ Some found
unfolding table_json
keys_json-done found = refl

pub root_json-is : (r : RootDoc) (keys consistent new : Members) → tables_json r r.extra ≡ Some keys → with (codes "consistent_snapshot") (boolean r.consistent_snapshot) keys ≡ Some consistent
    → head_json (codes "root") r.head consistent ≡ Some new → root_json r ≡ Some (object new)
unfolding root_json
root_json-is r keys consistent new a b c = rw (a, b, c) refl

-- a map and its plain form have the same keys
pub keys_of-docs : {K X Y : Type 0} (f : X → Y) (es : List (K × X)) → keys_of (map (λ e. (e.0, f e.1)) es) ≡ keys_of es
keys_of-docs f [] = refl
keys_of-docs f (e ∷ es) = ap (λ l. e.0 ∷ l) (keys_of-docs f es)
