-- What is written for delegations is read as them.
use Rattle.std.proofs.Common.{◌≡◌, ℕ, List, is_none, codes, Option, Some, None, option_map, chars, refl, subst}
use Rattle.std.specs.List.Sorted.{IsStrictlySortedBy}
use Rattle.std.specs.Map.{keys_of}
use Rattle.serde_json.specs.Data.{Data, boolean, string, array, object, Members, no_members}
use Rattle.serde_json.specs.Find.{as_object}
use Rattle.tough_names.specs.Glob.{Part}
use Rattle.tough_names.specs.Grammar.{parts_in}
use Rattle.tough_json.specs.Reading.{◌>>=◌, required, text, positive, truth, hexadecimal, listing, unless_null}
use Rattle.tough_json.specs.Writing.{with, positive_json, hexadecimal_json, all_json}
use Rattle.tough_json.proofs.lemmas.Write.{bind_ok, some-inj, required-with, hexadecimal-back, positive-back, all-back}
use Rattle.tough_keys.specs.Key.{key_json}
use Rattle.tough_roles.specs.Root.{by_bytes, key_entry_at, id_name, keys_at, keys_json, AreOwn}
use Rattle.tough_roles.proofs.lemmas.Entry.{own_keys, required_ok}
use Rattle.tough_roles.proofs.lemmas.Root.{by_bytes_total, keys_back}
use Rattle.tough_roles.proofs.lemmas.Tables.{table-back}
use Rattle.tough_schema.specs.Paths.{PathsDoc, patterns, prefixes, pattern, paths_at, text_json, pattern_json, with_paths}
use Rattle.tough_schema.specs.Delegations.{DelegatedRoleDoc, DelegationsDoc, delegated_role_at, delegations_at, delegated_role_json, delegations_json}

-- ---- patterns

text-back : (s : List ℕ) (d : Data) → text_json s ≡ Some d → text d ≡ Some s
text-back s d h = rw (← some-inj h) refl

pattern_under : (s : List ℕ) (d : Data) (o : Option (List Part)) → parts_in (chars s) ≡ o → option_map string (option_map (λ parts. s) o) ≡ Some d → pattern d ≡ Some s
pattern_under s d None e h = cc
pattern_under s d (Some parts) e h = rw (← some-inj h, e) refl

pattern-back : (s : List ℕ) (d : Data) → pattern_json s ≡ Some d → pattern d ≡ Some s
pattern-back s d h = pattern_under s d (parts_in (chars s)) refl h

paths-back : (p : PathsDoc) (new : Members) → with_paths p no_members ≡ Some new → paths_at new ≡ Some p
paths-back (patterns ps) new h =
    let items = bind_ok (all_json pattern_json ps) (λ items. with (codes "paths") (array items) no_members) new h in
    rw (← some-inj items.2, all-back pattern pattern_json ps items.0 pattern-back items.1) refl
paths-back (prefixes ps) new h =
    let items = bind_ok (all_json text_json ps) (λ items. with (codes "path_hash_prefixes") (array items) no_members) new h in
    rw (← some-inj items.2, all-back text text_json ps items.0 text-back items.1) refl

-- ---- a role

pub delegated_role-back : (r : DelegatedRoleDoc) (d : Data) → delegated_role_json r ≡ Some d → delegated_role_at d ≡ Some r
unfolding delegated_role_json delegated_role_at
delegated_role-back r d w =
    let a = bind_ok (with_paths r.paths no_members) _ d w in
    let b = bind_ok (with (codes "terminating") (boolean r.terminating) a.0) _ d a.2 in
    let c = bind_ok (positive_json r.threshold) _ d b.2 in
    let e = bind_ok (with (codes "threshold") c.0 b.0) _ d c.2 in
    let f = bind_ok (all_json hexadecimal_json r.keyids) _ d e.2 in
    let g = bind_ok (with (codes "keyids") (array f.0) e.0) _ d f.2 in
    let h = bind_ok (with (codes "name") (string r.name) g.0) _ d g.2 in
    rw (
      ← some-inj h.2,
      required-with (codes "name") text (string r.name) g.0 h.0 r.name h.1 refl,
      required-with (codes "keyids") (listing hexadecimal) (array f.0) e.0 g.0 r.keyids g.1 (all-back hexadecimal hexadecimal_json r.keyids f.0 hexadecimal-back f.1),
      required-with (codes "threshold") positive c.0 b.0 e.0 r.threshold e.1 (positive-back r.threshold c.0 c.1),
      required-with (codes "terminating") truth (boolean r.terminating) a.0 b.0 r.terminating b.1 refl,
      paths-back r.paths a.0 a.1,
    ) refl

-- ---- the delegations

pub delegations-back : (g : DelegationsDoc) (d : Data) → AreOwn g.keys → IsStrictlySortedBy by_bytes (keys_of g.keys) → delegations_json g ≡ Some d → delegations_at d ≡ Some g
unfolding delegations_json delegations_at
delegations-back g d own rise w =
    let a = bind_ok (all_json delegated_role_json g.roles) _ d w in
    let b = bind_ok (with (codes "roles") (array a.0) no_members) (λ roles. keys_json g.keys no_members >>= λ known. with (codes "keys") (object known) roles >>= λ ms. Some (object ms)) d a.2 in
    let c = bind_ok (keys_json g.keys no_members) (λ known. with (codes "keys") (object known) b.0 >>= λ ms. Some (object ms)) d b.2 in
    let e = bind_ok (with (codes "keys") (object c.0) b.0) (λ ms. Some (object ms)) d c.2 in
    rw (
      ← some-inj e.2,
      required-with (codes "keys") keys_at (object c.0) b.0 e.0 g.keys e.1 (table-back by_bytes_total is_none key_entry_at id_name key_json g.keys c.0 refl (keys_back g.keys own) rise c.1),
      required-with (codes "roles") (listing delegated_role_at) (array a.0) no_members b.0 g.roles b.1 (all-back delegated_role_at delegated_role_json g.roles a.0 delegated_role-back a.1),
    ) refl

-- it is an object
pub delegations-present : (g : DelegationsDoc) (d : Data) → delegations_json g ≡ Some d → unless_null d ≡ Some d
unfolding delegations_json
delegations-present g d w =
    let a = bind_ok (all_json delegated_role_json g.roles) _ d w in
    let b = bind_ok (with (codes "roles") (array a.0) no_members) (λ roles. keys_json g.keys no_members >>= λ known. with (codes "keys") (object known) roles >>= λ ms. Some (object ms)) d a.2 in
    let c = bind_ok (keys_json g.keys no_members) (λ known. with (codes "keys") (object known) b.0 >>= λ ms. Some (object ms)) d b.2 in
    let e = bind_ok (with (codes "keys") (object c.0) b.0) (λ ms. Some (object ms)) d c.2 in
    rw (← some-inj e.2) refl

pub delegations-kept : (d : Data) (g : DelegationsDoc) → delegations_at d ≡ Some g → AreOwn g.keys
unfolding delegations_at
delegations-kept d g h =
    let a = bind_ok (as_object d) _ g h in
    let b = bind_ok (required (codes "keys") keys_at a.0) _ g a.2 in
    let c = bind_ok (required (codes "roles") (listing delegated_role_at) b.0.1) _ g b.2 in
    let keys = required_ok (codes "keys") keys_at a.0 b.0 b.1 in
    subst (λ z. AreOwn z.keys) (some-inj c.2) (own_keys keys.0 b.0.0 keys.1)
