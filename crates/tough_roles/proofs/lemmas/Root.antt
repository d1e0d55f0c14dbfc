-- What is written for a root is read as it.
use Rattle.std.proofs.Common.{◌≡◌, List, [], ◌∷◌, ℕ, Bool, true, false, is_none, codes, Some, None, Option, option_map, if◌then◌else◌, refl, sym, ap, ◌∙◌}
use Rattle.std.specs.Cmp.{IsTotalOrder}
use Rattle.std.specs.Cmp.Lexicographic.{on_texts}
use Rattle.std.proofs.lemmas.Cmp.{nat_cmp_total}
use Rattle.std.proofs.lemmas.Slice.Eq.{bytes_eq-Decides}
use Rattle.jiff_core.specs.Timestamp.{IsTimestampNanos}
use Rattle.tough_decoded.specs.Spelled.{Spelled, hex_bytes}
use Rattle.serde_json.specs.Data.{Data, boolean, array, object, no_members}
use Rattle.tough_json.specs.Reading.{◌>>=◌, spelled, hexadecimal, listing, positive, truth}
use Rattle.tough_json.specs.Writing.{with, stands_for, positive_json, hexadecimal_json, all_json}
use Rattle.tough_json.proofs.lemmas.Write.{bind_ok, some-inj, required-with, hexadecimal-back, positive-back, all-back}
use Rattle.tough_keys.specs.Key.{KeyDoc, key_json, key_id_of}
use Rattle.tough_keys.proofs.lemmas.Key.{key-back}
use Rattle.tough_roles.specs.Head.{head_json}
use Rattle.tough_roles.specs.Roles.{rank, role_name, role_type, role_cmp}
use Rattle.tough_roles.specs.Root.{RootDoc, RoleKeysDoc, by_bytes, if_own, key_entry_at, keys_at, keys_json, role_keys_at, role_keys_json, role_entry_at, roles_at, roles_json, tables_json, root_at, root_json, AreOwn, AreOrdered, id_name}
use Rattle.tough_roles.specs.declared.role_type.RoleType.{RoleType}
use Rattle.tough_roles.specs.declared.role_type.RoleType.TheVariants as types
use Rattle.tough_roles.proofs.lemmas.Head.{head-back}
use Rattle.tough_roles.proofs.lemmas.Tables.{AreBack, table-back}

pub by_bytes_total : IsTotalOrder by_bytes
by_bytes_total = on_texts (λ (s : Spelled). s.bytes)

role_cmp_total : IsTotalOrder role_cmp
role_cmp_total = record { antisymm = λ x y. nat_cmp_total.antisymm (rank x) (rank y); trans = λ x y z. nat_cmp_total.trans (rank x) (rank y) (rank z); congr = λ x y z. nat_cmp_total.congr (rank x) (rank y) (rank z) }

-- ---- keys

own-is : (id : Spelled) (key : KeyDoc) (o : Option (List ℕ)) → o ≡ Some id.bytes → if_own {A = Spelled × KeyDoc} o id.bytes (id, key) ≡ Some (id, key)
own-is id key None h = cc
own-is id key (Some own) h = let same = (bytes_eq-Decides own id.bytes).1 (some-inj h) in rw same refl

name_at : (id : Spelled) (o : Option (List ℕ)) (n : List ℕ) (t : Bool) → stands_for o id.bytes ≡ t → (if t then Some id.spelling else None) ≡ Some n → (n ≡ id.spelling) × (o ≡ Some id.bytes)
name_at id None n true s h = cc
name_at id (Some b) n true s h = (sym (some-inj h), ap Some ((bytes_eq-Decides b id.bytes).0 s))
name_at id o n false s h = cc

name-is : (id : Spelled) (n : List ℕ) → id_name id ≡ Some n → (n ≡ id.spelling) × (hex_bytes id.spelling ≡ Some id.bytes)
name-is id n h = name_at id (hex_bytes id.spelling) n (stands_for (hex_bytes id.spelling) id.bytes) refl h

spelled-is : (id : Spelled) (n : List ℕ) → (n ≡ id.spelling) × (hex_bytes id.spelling ≡ Some id.bytes) → spelled hex_bytes n ≡ Some id
spelled-is id n h = ap (spelled hex_bytes) h.0 ∙ ap (option_map (λ b. record { spelling = id.spelling; bytes = b })) h.1

entry-back : (id : Spelled) (key : KeyDoc) (n : List ℕ) (d : Data) → id_name id ≡ Some n → key_id_of key ≡ Some id.bytes → key_json key ≡ Some d → key_entry_at n d ≡ Some (id, key)
unfolding key_entry_at
entry-back id key n d name own w = rw (spelled-is id n (name-is id n name), key-back key d w) (own-is id key (key_id_of key) own)

pub keys_back : (es : List (Spelled × KeyDoc)) → AreOwn es → AreBack key_entry_at id_name key_json es
keys_back [] o = tt
keys_back (e ∷ es) o = (λ n d name w. entry-back e.0 e.1 n d name o.0 w, keys_back es o.1)

-- ---- roles

role_named : (r : RoleType) → role_type (role_name r) ≡ Some r
role_named types.Root = refl
role_named types.Snapshot = refl
role_named types.Targets = refl
role_named types.Timestamp = refl
role_named types.DelegatedTargets = refl

role_keys-back : (r : RoleKeysDoc) (d : Data) → role_keys_json r ≡ Some d → role_keys_at d ≡ Some r
unfolding role_keys_json role_keys_at
role_keys-back r d w =
    let a = bind_ok (positive_json r.threshold) (λ value. with (codes "threshold") value r.extra >>= λ threshold. all_json hexadecimal_json r.keyids >>= λ items. with (codes "keyids") (array items) threshold >>= λ ms. Some (object ms)) d w in
    let b = bind_ok (with (codes "threshold") a.0 r.extra) (λ threshold. all_json hexadecimal_json r.keyids >>= λ items. with (codes "keyids") (array items) threshold >>= λ ms. Some (object ms)) d a.2 in
    let c = bind_ok (all_json hexadecimal_json r.keyids) (λ items. with (codes "keyids") (array items) b.0 >>= λ ms. Some (object ms)) d b.2 in
    let e = bind_ok (with (codes "keyids") (array c.0) b.0) (λ ms. Some (object ms)) d c.2 in
    rw (
      ← some-inj e.2,
      required-with (codes "keyids") (listing hexadecimal) (array c.0) b.0 e.0 r.keyids e.1 (all-back hexadecimal hexadecimal_json r.keyids c.0 hexadecimal-back c.1),
      required-with (codes "threshold") positive a.0 r.extra b.0 r.threshold b.1 (positive-back r.threshold a.0 a.1),
    ) refl

role-back : (e : RoleType × RoleKeysDoc) (n : List ℕ) (d : Data) → Some (role_name e.0) ≡ Some n → role_keys_json e.1 ≡ Some d → role_entry_at n d ≡ Some e
unfolding role_entry_at
role-back e n d name w = rw (← some-inj name, role_named e.0, role_keys-back e.1 d w) refl

roles_back : (es : List (RoleType × RoleKeysDoc)) → AreBack role_entry_at (λ role. Some (role_name role)) role_keys_json es
roles_back [] = tt
roles_back (e ∷ es) = (role-back e, roles_back es)

-- ---- the root

pub root-back : (r : RootDoc) (d : Data) → IsTimestampNanos r.head.expires → AreOwn r.keys → AreOrdered r
    → root_json r ≡ Some d → root_at d ≡ Some r
unfolding root_json tables_json root_at
root-back r d range own ordered w =
    let a = bind_ok (tables_json r r.extra) (λ keys. with (codes "consistent_snapshot") (boolean r.consistent_snapshot) keys >>= λ consistent. head_json (codes "root") r.head consistent >>= λ ms. Some (object ms)) d w in
    let b = bind_ok (with (codes "consistent_snapshot") (boolean r.consistent_snapshot) a.0) (λ consistent. head_json (codes "root") r.head consistent >>= λ ms. Some (object ms)) d a.2 in
    let c = bind_ok (head_json (codes "root") r.head b.0) (λ ms. Some (object ms)) d b.2 in
    let e = bind_ok (roles_json r.roles no_members) (λ listed. with (codes "roles") (object listed) r.extra >>= λ roles. keys_json r.keys no_members >>= λ known. with (codes "keys") (object known) roles) a.0 a.1 in
    let f = bind_ok (with (codes "roles") (object e.0) r.extra) (λ roles. keys_json r.keys no_members >>= λ known. with (codes "keys") (object known) roles) a.0 e.2 in
    let g = bind_ok (keys_json r.keys no_members) (λ known. with (codes "keys") (object known) f.0) a.0 f.2 in
    rw (
      ← some-inj c.2,
      head-back (codes "root") r.head b.0 c.0 range c.1,
      required-with (codes "consistent_snapshot") truth (boolean r.consistent_snapshot) a.0 b.0 r.consistent_snapshot b.1 refl,
      required-with (codes "keys") keys_at (object g.0) f.0 a.0 r.keys g.2 (table-back by_bytes_total is_none key_entry_at id_name key_json r.keys g.0 refl (keys_back r.keys own) ordered.keys_rise g.1),
      required-with (codes "roles") roles_at (object e.0) r.extra f.0 r.roles f.1 (table-back role_cmp_total (λ there. true) role_entry_at (λ role. Some (role_name role)) role_keys_json r.roles e.0 refl (roles_back r.roles) ordered.roles_rise e.1),
    ) refl
