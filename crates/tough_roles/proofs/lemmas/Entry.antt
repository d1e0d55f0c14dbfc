-- Keys and roles that are put into a map one after another.
use Rattle.std.proofs.Common.{◌≡◌, ℕ, List, [], ◌∷◌, codes, Bool, if◌then◌else◌, option_and_then, sym, subst, Option, Some, None, option_map, is_some, is_none, true, false, cond, Ordering, Less, Equal, Greater, is_eq, refl, ap, ◌∙◌}
use Rattle.std.specs.BTreeMap.{insert_entry, is_at}
use Rattle.std.specs.Map.{lookup}
use Rattle.std.specs.Ordering.{match_ordering}
use Rattle.std.specs.Str.{bytes_eq}
use Rattle.std.proofs.lemmas.Slice.Eq.{bytes_eq-Decides}
use Rattle.std.proofs.lemmas.Map.Text.{is_eq-slice_cmp}
use Rattle.tough_decoded.specs.Spelled.{Spelled, hex_bytes}
use Rattle.tough_json.specs.Reading.{◌>>=◌, required, without, spelled, truth}
use Rattle.tough_json.proofs.lemmas.Write.{bind_ok, some-inj}
use Rattle.tough_roles.specs.Head.{Head, head_at}
use Rattle.serde_json.specs.Find.{as_object, get_member}
use Rattle.serde_json.specs.Data.{Data, Members, no_members, member}
use Rattle.tough_keys.specs.declared.key.Key.{Key}
use Rattle.tough_keys.specs.Key.{KeyDoc, key_doc, key_at, key_id_of}
use Rattle.tough_roles.specs.Table.{table_from, with_entry}
use Rattle.tough_roles.specs.Root.{keys_doc, by_bytes, key_under, key_entry_at, keys_from, RoleKeysDoc, roles_at, keys_at, if_own, AreOwn, RootDoc, root_at}
use Rattle.tough_roles.specs.declared.role_type.RoleType.{RoleType}

-- ---- the map, by plain keys

is_some-map : {A B : Type 0} (f : A → B) (o : Option A) → is_some (option_map f o) ≡ is_some o
is_some-map f None = refl
is_some-map f (Some a) = refl

is_none-from : {A : Type 0} (o : Option A) → is_some o ≡ false → o ≡ None
is_none-from None h = refl
is_none-from (Some a) h = cc

get-at : (o : Ordering) (e : Spelled × Key) (rest : Option Key) (docs : Option KeyDoc) → docs ≡ option_map key_doc rest
    → (cond (is_eq o) (Some (key_doc e.1)) docs) ≡ option_map key_doc (cond (is_eq o) (Some e.1) rest)
get-at Less e rest docs h = h
get-at Equal e rest docs h = refl
get-at Greater e rest docs h = h

pub get-keys_doc : (es : List (Spelled × Key)) (id : Spelled) → key_under (keys_doc es) id ≡ option_map key_doc (lookup (is_at (by_bytes id)) es)
get-keys_doc [] id = refl
get-keys_doc (e ∷ es) id = get-at (by_bytes id e.0) e (lookup (is_at (by_bytes id)) es) (key_under (keys_doc es) id) (get-keys_doc es id)

pub free-keys_doc : (es : List (Spelled × Key)) (id : Spelled) → is_some (lookup (is_at (by_bytes id)) es) ≡ false → key_under (keys_doc es) id ≡ None
free-keys_doc es id h = is_none-from (key_under (keys_doc es) id) (ap is_some (get-keys_doc es id) ∙ is_some-map key_doc (lookup (is_at (by_bytes id)) es) ∙ h)

pub taken-keys_doc : (es : List (Spelled × Key)) (id : Spelled) → is_some (lookup (is_at (by_bytes id)) es) ≡ true → is_some (key_under (keys_doc es) id) ≡ true
taken-keys_doc es id h = ap is_some (get-keys_doc es id) ∙ is_some-map key_doc (lookup (is_at (by_bytes id)) es) ∙ h

insert-at : (o : Ordering) (e : Spelled × Key) (es rest : List (Spelled × Key)) (id : Spelled) (key : Key) (docs : List (Spelled × KeyDoc)) → keys_doc rest ≡ docs
    → keys_doc (match_ordering o ((id, key) ∷ e ∷ es) ((e.0, key) ∷ es) (e ∷ rest)) ≡ match_ordering o ((id, key_doc key) ∷ keys_doc (e ∷ es)) ((e.0, key_doc key) ∷ keys_doc es) ((e.0, key_doc e.1) ∷ docs)
insert-at Less e es rest id key docs h = refl
insert-at Equal e es rest id key docs h = refl
insert-at Greater e es rest id key docs h = ap (λ l. (e.0, key_doc e.1) ∷ l) h

pub insert-keys_doc : (es : List (Spelled × Key)) (id : Spelled) (key : Key) → keys_doc (insert_entry by_bytes es id key) ≡ insert_entry by_bytes (keys_doc es) id (key_doc key)
insert-keys_doc [] id key = refl
insert-keys_doc (e ∷ es) id key = insert-at (by_bytes id e.0) e es (insert_entry by_bytes es id key) id key (insert_entry by_bytes (keys_doc es) id (key_doc key)) (insert-keys_doc es id key)

-- ---- one member more

free : (o : Option KeyDoc) → o ≡ None → is_none o ≡ true
free None h = refl
free (Some k) h = cc

taken : (o : Option KeyDoc) → is_some o ≡ true → is_none o ≡ false
taken None h = cc
taken (Some k) h = refl

pub keys-more : (found : List (Spelled × KeyDoc)) (name : List ℕ) (d : Data) (ms : Members) (id : Spelled) (key : KeyDoc) → key_entry_at name d ≡ Some (id, key) → key_under found id ≡ None
    → keys_from found (member name d ms) ≡ keys_from (insert_entry by_bytes found id key) ms
unfolding table_from
keys-more found name d ms id key e empty = let none = free (key_under found id) empty in rw (e, none) refl

-- a name whose bytes are there already
pub keys-twice : (found : List (Spelled × KeyDoc)) (name : List ℕ) (d : Data) (ms : Members) (id : Spelled) (key : KeyDoc) → key_entry_at name d ≡ Some (id, key) → is_some (key_under found id) ≡ true
    → keys_from found (member name d ms) ≡ None
unfolding table_from
keys-twice found name d ms id key e there = let some = taken (key_under found id) there in rw (e, some) refl

pub keys-refused : (found : List (Spelled × KeyDoc)) (name : List ℕ) (d : Data) (ms : Members) → key_entry_at name d ≡ None → keys_from found (member name d ms) ≡ None
unfolding table_from
keys-refused found name d ms e = rw e refl

pub keys-done : (found : List (Spelled × KeyDoc)) → keys_from found no_members ≡ Some found
unfolding table_from
keys-done found = refl

-- ---- roles

-- ---- each key that was read stands under its own identifier

own_eq : (own id : List ℕ) (a e : Spelled × KeyDoc) (t : Bool) → bytes_eq own id ≡ t → (if t then Some a else None) ≡ Some e → (Some own ≡ Some id) × (a ≡ e)
own_eq own id a e true s h = (ap Some ((bytes_eq-Decides own id).0 s), some-inj h)
own_eq own id a e false s h = cc

pub and_then_ok : {A B : Type 0} (o : Option A) (f : A → Option B) (b : B) → option_and_then f o ≡ Some b → (a : A) × (f a ≡ Some b)
and_then_ok None f b h = cc
and_then_ok (Some a) f b h = (a, h)

pub map_ok : {A B : Type 0} (f : A → B) (o : Option A) (b : B) → option_map f o ≡ Some b → (a : A) × (o ≡ Some a) × (f a ≡ b)
map_ok f None b h = cc
map_ok f (Some a) b h = (a, refl, some-inj h)

pub required_ok : {A : Type 0} (k : List ℕ) (f : Data → Option A) (ms : Members) (p : A × Members) → required k f ms ≡ Some p → (d : Data) × (f d ≡ Some p.0)
required_ok k f ms p h =
    let a = map_ok (λ x. (x, without k ms)) (option_and_then f (get_member k ms)) p h in
    let b = and_then_ok (get_member k ms) f a.0 a.1 in
    (b.0, b.1 ∙ ap Some (ap (λ z. z.0) a.2))

abbrev root_of : Head → Bool → List (Spelled × KeyDoc) → List (RoleType × RoleKeysDoc) → Members → RootDoc
root_of h c k r x = record { head = h; consistent_snapshot = c; keys = k; roles = r; extra = x }

own_at : (o : Option (List ℕ)) (id : List ℕ) (a e : Spelled × KeyDoc) → if_own o id a ≡ Some e → (o ≡ Some id) × (a ≡ e)
own_at None id a e h = cc
own_at (Some own) id a e h = own_eq own id a e (bytes_eq own id) refl h

entry-own : (name : List ℕ) (d : Data) (e : Spelled × KeyDoc) → key_entry_at name d ≡ Some e → key_id_of e.1 ≡ Some e.0.bytes
unfolding key_entry_at
entry-own name d e h =
    let a = bind_ok (spelled hex_bytes name) (λ id. key_at d >>= λ key. if_own {A = Spelled × KeyDoc} (key_id_of key) id.bytes (id, key)) e h in
    let b = bind_ok (key_at d) (λ key. if_own {A = Spelled × KeyDoc} (key_id_of key) a.0.bytes (a.0, key)) e a.2 in
    let c = own_at (key_id_of b.0) a.0.bytes (a.0, b.0) e b.2 in
    ap (λ z. key_id_of z.1) (sym c.1) ∙ c.0 ∙ ap (λ z. Some z.0.bytes) c.1

tied_bytes : (a b : Spelled) → by_bytes a b ≡ Equal → a.bytes ≡ b.bytes
tied_bytes a b h = (bytes_eq-Decides a.bytes b.bytes).0 (sym (is_eq-slice_cmp a.bytes b.bytes) ∙ ap is_eq h)

own_insert_at : (t : Ordering) (e : Spelled × KeyDoc) (es rest : List (Spelled × KeyDoc)) (id : Spelled) (key : KeyDoc) → by_bytes id e.0 ≡ t → key_id_of key ≡ Some id.bytes → AreOwn (e ∷ es) → AreOwn rest
    → AreOwn (match_ordering t ((id, key) ∷ e ∷ es) ((e.0, key) ∷ es) (e ∷ rest))
own_insert_at Less e es rest id key h own a r = (own, a)
own_insert_at Equal e es rest id key h own a r = (own ∙ ap Some (tied_bytes id e.0 h), a.1)
own_insert_at Greater e es rest id key h own a r = (a.0, r)

own_insert : (es : List (Spelled × KeyDoc)) (id : Spelled) (key : KeyDoc) → key_id_of key ≡ Some id.bytes → AreOwn es → AreOwn (insert_entry by_bytes es id key)
own_insert [] id key own a = (own, tt)
own_insert (e ∷ es) id key own a = own_insert_at (by_bytes id e.0) e es (insert_entry by_bytes es id key) id key refl own a (own_insert es id key own a.1)

with_at : (t : Bool) (es more : List (Spelled × KeyDoc)) → (if t then Some es else None) ≡ Some more → es ≡ more
with_at true es more h = some-inj h
with_at false es more h = cc

pub keys-own : (ms : Members) (found es : List (Spelled × KeyDoc)) → AreOwn found → keys_from found ms ≡ Some es → AreOwn es
unfolding table_from
keys-own no_members found es own h = subst AreOwn (some-inj h) own
keys-own (member name d ms) found es own h =
    let a = bind_ok (key_entry_at name d) (λ e. with_entry is_none by_bytes found e >>= λ more. keys_from more ms) es h in
    let b = bind_ok (with_entry is_none by_bytes found a.0) (λ more. keys_from more ms) es a.2 in
    let put = with_at (is_none (key_under found a.0.0)) (insert_entry by_bytes found a.0.0 a.0.1) b.0 b.1 in
    keys-own ms b.0 es (subst AreOwn put (own_insert found a.0.0 a.0.1 (entry-own name d a.0 a.1) own)) b.2

pub own_keys : (d : Data) (es : List (Spelled × KeyDoc)) → keys_at d ≡ Some es → AreOwn es
own_keys d es h = let a = and_then_ok (as_object d) (keys_from []) es h in keys-own a.0 [] es tt a.1

pub root-own : (d : Data) (r : RootDoc) → root_at d ≡ Some r → AreOwn r.keys
unfolding root_at
root-own d r h =
    let a = bind_ok (as_object d) (λ ms. head_at ms >>= λ head. required (codes "consistent_snapshot") truth head.1 >>= λ consistent. required (codes "keys") keys_at consistent.1 >>= λ keys. required (codes "roles") roles_at keys.1 >>= λ roles. Some (root_of head.0 consistent.0 keys.0 roles.0 roles.1)) r h in
    let b = bind_ok (head_at a.0) (λ head. required (codes "consistent_snapshot") truth head.1 >>= λ consistent. required (codes "keys") keys_at consistent.1 >>= λ keys. required (codes "roles") roles_at keys.1 >>= λ roles. Some (root_of head.0 consistent.0 keys.0 roles.0 roles.1)) r a.2 in
    let c = bind_ok (required (codes "consistent_snapshot") truth b.0.1) (λ consistent. required (codes "keys") keys_at consistent.1 >>= λ keys. required (codes "roles") roles_at keys.1 >>= λ roles. Some (root_of b.0.0 consistent.0 keys.0 roles.0 roles.1)) r b.2 in
    let k = bind_ok (required (codes "keys") keys_at c.0.1) (λ keys. required (codes "roles") roles_at keys.1 >>= λ roles. Some (root_of b.0.0 c.0.0 keys.0 roles.0 roles.1)) r c.2 in
    let l = bind_ok (required (codes "roles") roles_at k.0.1) (λ roles. Some (root_of b.0.0 c.0.0 k.0.0 roles.0 roles.1)) r k.2 in
    let f = required_ok (codes "keys") keys_at c.0.1 k.0 k.1 in
    subst AreOwn (ap (λ z. z.keys) (some-inj l.2)) (own_keys f.0 k.0.0 f.1)
