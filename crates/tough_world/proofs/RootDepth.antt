-- A root that was read from bytes nests, as it is written, no deeper than is read, and its keys stand under their own identifiers.
use Rattle.std.proofs.Common.{◌≡◌, ◌≤◌, ℕ, suc, List, [], ◌∷◌, Option, None, Some, option_and_then, is_none, Ordering, Less, Equal, Greater, codes, refl, sym, ap, ◌∙◌, subst, arith}
use Rattle.std.specs.BTreeMap.{insert_entry, is_at}
use Rattle.std.specs.Map.{lookup}
use Rattle.std.specs.Ordering.{match_ordering}
use Rattle.std.specs.Prelude.{Bool, true, false, if◌then◌else◌}
use Rattle.std.specs.Str.{bytes_eq}
use Rattle.serde_json.specs.Read.{max_depth}
use Rattle.serde_json.specs.Data.{Data, boolean, string, array, object, Members, no_members, member, depth, members_depth, Items, item, items_depth}
use Rattle.serde_json.specs.Find.{get_member, as_object}
use Rattle.tough_decoded.specs.Spelled.{Spelled, hex_bytes}
use Rattle.tough_json.specs.Reading.{◌>>=◌, required, positive, truth, hexadecimal, listing, decoded, spelled}
use Rattle.tough_json.specs.Results.{json_of}
use Rattle.tough_json.specs.Table.{with_entry, table_from, table_json}
use Rattle.tough_json.specs.Writing.{with, stands_for, positive_json, decoded_json, hexadecimal_json, all_json}
use Rattle.tough_json.proofs.lemmas.Write.{bind_ok, some-inj}
use Rattle.tough_keys.specs.Key.{KeyDoc, kind_at, scheme_at, kind_name, scheme_name, public_bytes, keyval_at, key_at, keyval_json, kind_json, key_json, key_id_of}
use Rattle.tough_keys.specs.declared.kind.Kind.{Kind}
use Rattle.tough_roles.specs.Head.{head_at, head_json}
use Rattle.tough_roles.specs.Readable.{NestsWithin}
use Rattle.tough_roles.specs.Roles.{role_type, role_name, role_cmp}
use Rattle.tough_roles.specs.Root.{RootDoc, RoleKeysDoc, AreOwn, by_bytes, if_own, key_entry_at, keys_at, keys_json, id_name, role_keys_at, role_keys_json, role_entry_at, roles_at, roles_json, root_at, tables_json, root_json}
use Rattle.tough_roles.specs.Signature.{SignedDoc, signed_parts, signed_at, signed_json}
use Rattle.tough_roles.specs.declared.role_type.RoleType.{RoleType}
use Rattle.tough_roles.proofs.lemmas.Entry.{root-own}
use Rattle.tough_world.proofs.Shallow.{Below, both, first, second, with-below, get-below, some-below, came, left-below, inside, outside, text-if, number-flat, flat, and_ok, AddsNone, head-left, head-written, shallow}

-- ---- tables

-- what is written of each entry nests no deeper
abbrev AllBelow : {K X : Type 0} → ℕ → (X → Option Data) → List (K × X) → Type 0
AllBelow n g [] = Unit {0}
AllBelow n g (e ∷ es) = ((d : Data) → g e.1 ≡ Some d → depth d ≤ n) × AllBelow n g es

placed : {K X : Type 0} (n : ℕ) (g : X → Option Data) (o : Ordering) (a b c : List (K × X)) → AllBelow n g a → AllBelow n g b → AllBelow n g c → AllBelow n g (match_ordering o a b c)
placed n g Less a b c x y z = x
placed n g Equal a b c x y z = y
placed n g Greater a b c x y z = z

insert-below : {K X : Type 0} (n : ℕ) (g : X → Option Data) (order : K → K → Ordering) (es : List (K × X)) (k : K) (x : X) → ((d : Data) → g x ≡ Some d → depth d ≤ n) → AllBelow n g es
    → AllBelow n g (insert_entry order es k x)
insert-below n g order [] k x h all = (h, tt)
insert-below n g order (e ∷ es) k x h all =
    placed n g (order k e.0) ((k, x) ∷ e ∷ es) ((e.0, x) ∷ es) (e ∷ insert_entry order es k x) (h, all) (h, all.1) (all.0, insert-below n g order es k x h all.1)

if-some : {A : Type 0} (b : Bool) (x y : A) → (if b then Some x else None) ≡ Some y → x ≡ y
if-some true x y h = some-inj h
if-some false x y h = absurd (cc (h))

-- each entry of the map is written of a member that was read
abbrev ReadsBelow : {K X : Type 0} → ℕ → (List ℕ → Data → Option (K × X)) → (X → Option Data) → Type 0
ReadsBelow n entry g = (name : List ℕ) (v : Data) (e : _) (d : Data) → entry name v ≡ Some e → g e.1 ≡ Some d → depth v ≤ n → depth d ≤ n

table-read : {K X : Type 0} (n : ℕ) (may : Option X → Bool) (order : K → K → Ordering) (entry : List ℕ → Data → Option (K × X)) (g : X → Option Data) → ReadsBelow n entry g
    → (old : List (K × X)) (ms : Members) (es : List (K × X)) → table_from may order entry old ms ≡ Some es → AllBelow n g old → Below n ms → AllBelow n g es
unfolding table_from
table-read n may order entry g per old no_members es r all h = subst (λ (xs : List _). AllBelow n g xs) (some-inj r) all
table-read n may order entry g per old (member name v ms) es r all h =
    let e = bind_ok (entry name v) (λ e. with_entry may order old e >>= λ more. table_from may order entry more ms) es r in
    let more = bind_ok (with_entry may order old e.0) (λ more. table_from may order entry more ms) es e.2 in
    let put = if-some (may (lookup (is_at (order e.0.0)) old)) (insert_entry order old e.0.0 e.0.1) more.0 more.1 in
    let one = insert-below n g order old e.0.0 e.0.1 (λ d w. per name v e.0 d e.1 w (first (depth v) (members_depth ms) n h)) all in
    table-read n may order entry g per more.0 ms es more.2 (subst (λ (xs : List _). AllBelow n g xs) put one) (second (depth v) (members_depth ms) n h)

table-written : {K X : Type 0} (n : ℕ) (name : K → Option (List ℕ)) (g : X → Option Data) (es : List (K × X)) (found out : Members) → table_json name g es found ≡ Some out
    → AllBelow n g es → Below n found → Below n out
unfolding table_json
table-written n name g [] found out w all h = subst (λ (x : Members). Below n x) (some-inj w) h
table-written n name g (e ∷ es) found out w all h =
    let d = bind_ok (g e.1) (λ value. name e.0 >>= λ k. with k value found >>= λ more. table_json name g es more) out w in
    let k = bind_ok (name e.0) (λ k. with k d.0 found >>= λ more. table_json name g es more) out d.2 in
    let more = bind_ok (with k.0 d.0 found) (λ more. table_json name g es more) out k.2 in
    table-written n name g es more.0 out more.2 all.1 (with-below n k.0 d.0 found more.0 more.1 (all.0 d.0 d.1) h)

-- a table as an object: what is read from one and written anew
table-below : {K X : Type 0} (n : ℕ) (may : Option X → Bool) (order : K → K → Ordering) (entry : List ℕ → Data → Option (K × X)) (name : K → Option (List ℕ)) (g : X → Option Data) → ReadsBelow n entry g
    → (v : Data) (es : List (K × X)) (out : Members) → option_and_then (table_from may order entry []) (as_object v) ≡ Some es → table_json name g es no_members ≡ Some out
    → depth v ≤ suc n → depth (object out) ≤ suc n
table-below n may order entry name g per v es out r w le =
    let ms = and_ok (table_from may order entry []) (as_object v) es r in
    let none : Below n no_members = omega arith in
    outside n (object out) out refl (table-written n name g es no_members out w (table-read n may order entry g per [] ms.0 es ms.2 tt (inside n v ms.0 ms.1 le)) none)

-- ---- roles

coded-flat : (n : ℕ) (decodes : List ℕ → Option (List ℕ)) (s : Spelled) (d : Data) → decoded_json decodes s ≡ Some d → depth d ≤ n
coded-flat n decodes s d e = text-if n (stands_for (decodes s.spelling) s.bytes) s.spelling d e

texts-flat : (ss : List Spelled) (out : Items) → all_json hexadecimal_json ss ≡ Some out → items_depth out ≤ 0
unfolding all_json
texts-flat [] out w = subst (λ (x : Items). items_depth x ≤ 0) (some-inj w) (omega arith)
texts-flat (s ∷ ss) out w =
    let d = bind_ok (hexadecimal_json s) (λ x. all_json hexadecimal_json ss >>= λ xs. Some (item x xs)) out w in
    let tail = bind_ok (all_json hexadecimal_json ss) (λ xs. Some (item d.0 xs)) out d.2 in
    subst (λ (x : Items). items_depth x ≤ 0) (some-inj tail.2) (both (depth d.0) (items_depth tail.0) 0 (coded-flat 0 hex_bytes s d.0 d.1) (texts-flat ss tail.0 tail.1))

role-keys-below : (n : ℕ) → AddsNone (suc (suc n)) role_keys_at role_keys_json
unfolding role_keys_at role_keys_json
role-keys-below n v r d e w le =
    let m = suc n in
    let ms = bind_ok (as_object v) _ r e in
    let ids = bind_ok (required (codes "keyids") (listing hexadecimal) ms.0) _ r ms.2 in
    let most = bind_ok (required (codes "threshold") positive ids.0.1) _ r ids.2 in
    let x : Below m ids.0.1 = left-below m (codes "keyids") (listing hexadecimal) ms.0 ids.0 (came (codes "keyids") (listing hexadecimal) ms.0 ids.0 ids.1) (inside m v ms.0 ms.1 le) in
    let y : Below m most.0.1 = left-below m (codes "threshold") positive ids.0.1 most.0 (came (codes "threshold") positive ids.0.1 most.0 most.1) x in
    let extra : Below m r.extra = subst (λ (q : RoleKeysDoc). Below m q.extra) (some-inj most.2) y in
    let a = bind_ok (positive_json r.threshold) (λ value. with (codes "threshold") value r.extra >>= λ t. all_json hexadecimal_json r.keyids >>= λ is. with (codes "keyids") (array is) t >>= λ ys. Some (object ys)) d w in
    let b = bind_ok (with (codes "threshold") a.0 r.extra) (λ t. all_json hexadecimal_json r.keyids >>= λ is. with (codes "keyids") (array is) t >>= λ ys. Some (object ys)) d a.2 in
    let c = bind_ok (all_json hexadecimal_json r.keyids) (λ is. with (codes "keyids") (array is) b.0 >>= λ ys. Some (object ys)) d b.2 in
    let f = bind_ok (with (codes "keyids") (array c.0) b.0) (λ ys. Some (object ys)) d c.2 in
    let low : items_depth c.0 ≤ 0 = texts-flat r.keyids c.0 c.1 in
    let z = with-below m (codes "threshold") a.0 r.extra b.0 b.1 (number-flat m r.threshold a.0 a.1) extra in
    outside m d f.0 (some-inj f.2) (with-below m (codes "keyids") (array c.0) b.0 f.0 f.1 (omega (arith, low)) z)

role-entry-below : (n : ℕ) → ReadsBelow (suc (suc n)) role_entry_at role_keys_json
unfolding role_entry_at
role-entry-below n name v e d r w h =
    let k = bind_ok (role_type name) (λ type. role_keys_at v >>= λ keys. Some (type, keys)) e r in
    let x = bind_ok (role_keys_at v) (λ keys. Some (k.0, keys)) e k.2 in
    role-keys-below n v e.1 d (x.1 ∙ ap Some (ap (λ (p : RoleType × RoleKeysDoc). p.1) (some-inj x.2))) w h

-- ---- keys

keyval-left : (n : ℕ) (decodes : List ℕ → Option (List ℕ)) (v : Data) (p : Spelled × Members) → keyval_at decodes v ≡ Some p → depth v ≤ suc n → Below n p.1
unfolding keyval_at
keyval-left n decodes v p e le =
    let ms = bind_ok (as_object v) (λ ms. required (codes "public") (decoded decodes) ms) p e in
    left-below n (codes "public") (decoded decodes) ms.0 p (came (codes "public") (decoded decodes) ms.0 p ms.2) (inside n v ms.0 ms.1 le)

keyval-written : (n : ℕ) (decodes : List ℕ → Option (List ℕ)) (public : Spelled) (extra : Members) (d : Data) → keyval_json decodes public extra ≡ Some d → Below n extra → depth d ≤ suc n
unfolding keyval_json
keyval-written n decodes public extra d w h =
    let a = bind_ok (decoded_json decodes public) (λ x. with (codes "public") x extra >>= λ ys. Some (object ys)) d w in
    let b = bind_ok (with (codes "public") a.0 extra) (λ ys. Some (object ys)) d a.2 in
    outside n d b.0 (some-inj b.2) (with-below n (codes "public") a.0 extra b.0 b.1 (coded-flat n decodes public a.0 a.1) h)

kind-written : (m : ℕ) (kind : Kind) (inner : Data) (extra : Members) (d : Data) → kind_json kind inner extra ≡ Some d → depth inner ≤ m → Below m extra → depth d ≤ suc m
unfolding kind_json
kind-written m kind inner extra d w low h =
    let b = bind_ok (with (codes "keyval") inner extra) (λ v. with (codes "scheme") (string (scheme_name kind)) v >>= λ s. with (codes "keytype") (string (kind_name kind)) s >>= λ ys. Some (object ys)) d w in
    let f = bind_ok (with (codes "scheme") (string (scheme_name kind)) b.0) (λ s. with (codes "keytype") (string (kind_name kind)) s >>= λ ys. Some (object ys)) d b.2 in
    let k = bind_ok (with (codes "keytype") (string (kind_name kind)) f.0) (λ ys. Some (object ys)) d f.2 in
    let z = with-below m (codes "keyval") inner extra b.0 b.1 low h in
    let u = with-below m (codes "scheme") (string (scheme_name kind)) b.0 f.0 f.1 (flat m (scheme_name kind)) z in
    outside m d k.0 (some-inj k.2) (with-below m (codes "keytype") (string (kind_name kind)) f.0 k.0 k.1 (flat m (kind_name kind)) u)

key-below : (n : ℕ) → AddsNone (suc (suc n)) key_at key_json
unfolding key_at key_json
key-below n v k d e w le =
    let m = suc n in
    let ms = bind_ok (as_object v) _ k e in
    let kind = bind_ok (required (codes "keytype") kind_at ms.0) _ k ms.2 in
    let scheme = bind_ok (required (codes "scheme") (scheme_at kind.0.0) kind.0.1) _ k kind.2 in
    let keyval = keyval_at (public_bytes kind.0.0) in
    let val = bind_ok (required (codes "keyval") keyval scheme.0.1) _ k scheme.2 in
    let same = some-inj val.2 in
    let x : Below m kind.0.1 = left-below m (codes "keytype") kind_at ms.0 kind.0 (came (codes "keytype") kind_at ms.0 kind.0 kind.1) (inside m v ms.0 ms.1 le) in
    let y : Below m scheme.0.1 = left-below m (codes "scheme") (scheme_at kind.0.0) kind.0.1 scheme.0 (came (codes "scheme") (scheme_at kind.0.0) kind.0.1 scheme.0 scheme.1) x in
    let c = came (codes "keyval") keyval scheme.0.1 val.0 val.1 in
    let from : depth c.from ≤ m = some-below m (get_member (codes "keyval") scheme.0.1) c.from c.there (get-below m (codes "keyval") scheme.0.1 y) in
    let extra : Below m k.extra = subst (λ (q : KeyDoc). Below m q.extra) same (left-below m (codes "keyval") keyval scheme.0.1 val.0 c y) in
    let inner-extra : Below n k.keyval_extra = subst (λ (q : KeyDoc). Below n q.keyval_extra) same (keyval-left n (public_bytes kind.0.0) c.from val.0.0 c.reads from) in
    let a = bind_ok (keyval_json (public_bytes k.kind) k.public k.keyval_extra) (λ i. kind_json k.kind i k.extra) d w in
    kind-written m k.kind a.0 k.extra d a.2 (keyval-written n (public_bytes k.kind) k.public k.keyval_extra a.0 a.1 inner-extra) extra

own-is : {A : Type 0} (own : Option (List ℕ)) (id : List ℕ) (x y : A) → if_own own id x ≡ Some y → x ≡ y
own-is None id x y h = absurd (cc (h))
own-is (Some own) id x y h = if-some (bytes_eq own id) x y h

key-entry-below : (n : ℕ) → ReadsBelow (suc (suc n)) key_entry_at key_json
unfolding key_entry_at
key-entry-below n name v e d r w h =
    let i = bind_ok (spelled hex_bytes name) (λ id. key_at v >>= λ key. if_own (key_id_of key) id.bytes (id, key)) e r in
    let k = bind_ok (key_at v) (λ key. if_own (key_id_of key) i.0.bytes (i.0, key)) e i.2 in
    key-below n v e.1 d (k.1 ∙ ap Some (ap (λ (p : Spelled × KeyDoc). p.1) (own-is (key_id_of k.0) i.0.bytes (i.0, k.0) e k.2))) w h

-- ---- roots

tables-written : (m : ℕ) (r : RootDoc) (ms out : Members) → tables_json r ms ≡ Some out
    → ((listed : Members) → roles_json r.roles no_members ≡ Some listed → depth (object listed) ≤ m)
    → ((known : Members) → keys_json r.keys no_members ≡ Some known → depth (object known) ≤ m) → Below m ms → Below m out
unfolding tables_json
tables-written m r ms out w roles keys h =
    let a = bind_ok (roles_json r.roles no_members) (λ l. with (codes "roles") (object l) ms >>= λ rs. keys_json r.keys no_members >>= λ ks. with (codes "keys") (object ks) rs) out w in
    let b = bind_ok (with (codes "roles") (object a.0) ms) (λ rs. keys_json r.keys no_members >>= λ ks. with (codes "keys") (object ks) rs) out a.2 in
    let c = bind_ok (keys_json r.keys no_members) (λ ks. with (codes "keys") (object ks) b.0) out b.2 in
    with-below m (codes "keys") (object c.0) b.0 out c.2 (keys c.0 c.1) (with-below m (codes "roles") (object a.0) ms b.0 b.1 (roles a.0 a.1) h)

root-below : (n : ℕ) → AddsNone (suc (suc (suc (suc n)))) root_at root_json
unfolding root_at root_json
root-below n v r d e w le =
    let m = suc (suc (suc n)) in
    let ms = bind_ok (as_object v) _ r e in
    let head = bind_ok (head_at ms.0) _ r ms.2 in
    let con = bind_ok (required (codes "consistent_snapshot") truth head.0.1) _ r head.2 in
    let keys = bind_ok (required (codes "keys") keys_at con.0.1) _ r con.2 in
    let roles = bind_ok (required (codes "roles") roles_at keys.0.1) _ r keys.2 in
    let same = some-inj roles.2 in
    let x : Below m head.0.1 = head-left m ms.0 head.0 head.1 (inside m v ms.0 ms.1 le) in
    let y : Below m con.0.1 = left-below m (codes "consistent_snapshot") truth head.0.1 con.0 (came (codes "consistent_snapshot") truth head.0.1 con.0 con.1) x in
    let ck = came (codes "keys") keys_at con.0.1 keys.0 keys.1 in
    let z : Below m keys.0.1 = left-below m (codes "keys") keys_at con.0.1 keys.0 ck y in
    let cr = came (codes "roles") roles_at keys.0.1 roles.0 roles.1 in
    let extra : Below m r.extra = subst (λ (q : RootDoc). Below m q.extra) same (left-below m (codes "roles") roles_at keys.0.1 roles.0 cr z) in
    let kd : depth ck.from ≤ m = some-below m (get_member (codes "keys") con.0.1) ck.from ck.there (get-below m (codes "keys") con.0.1 y) in
    let rd : depth cr.from ≤ m = some-below m (get_member (codes "roles") keys.0.1) cr.from cr.there (get-below m (codes "roles") keys.0.1 z) in
    let a = bind_ok (tables_json r r.extra) (λ t. with (codes "consistent_snapshot") (boolean r.consistent_snapshot) t >>= λ c. head_json (codes "root") r.head c >>= λ ys. Some (object ys)) d w in
    let b = bind_ok (with (codes "consistent_snapshot") (boolean r.consistent_snapshot) a.0) (λ c. head_json (codes "root") r.head c >>= λ ys. Some (object ys)) d a.2 in
    let c = bind_ok (head_json (codes "root") r.head b.0) (λ ys. Some (object ys)) d b.2 in
    let listed : (l : Members) → roles_json r.roles no_members ≡ Some l → depth (object l) ≤ m = λ l wl.
    table-below (suc (suc n)) (λ there. true) role_cmp role_entry_at (λ role. Some (role_name role)) role_keys_json (role-entry-below n) cr.from roles.0.0 l cr.reads
    (subst (λ (q : RootDoc). roles_json q.roles no_members ≡ Some l) (sym same) wl) rd in
    let known : (l : Members) → keys_json r.keys no_members ≡ Some l → depth (object l) ≤ m = λ l wl.
    table-below (suc (suc n)) is_none by_bytes key_entry_at id_name key_json (key-entry-below n) ck.from keys.0.0 l ck.reads
    (subst (λ (q : RootDoc). keys_json q.keys no_members ≡ Some l) (sym same) wl) kd in
    let t = tables-written m r r.extra a.0 a.1 listed known extra in
    let u = with-below m (codes "consistent_snapshot") (boolean r.consistent_snapshot) a.0 b.0 b.1 (omega arith) t in
    outside m d c.0 (some-inj c.2) (head-written m (codes "root") r.head b.0 c.0 c.1 u)

pub root-shallow : (bytes : List ℕ) (s : SignedDoc RootDoc) → option_and_then (signed_at root_at) (json_of bytes) ≡ Some s → NestsWithin max_depth (signed_json root_json s)
root-shallow bytes s r = shallow root_at root_json (root-below 122) bytes s (signed_json root_json s) r refl

pub root-keys-own : (bytes : List ℕ) (s : SignedDoc RootDoc) → option_and_then (signed_at root_at) (json_of bytes) ≡ Some s → AreOwn s.role.keys
root-keys-own bytes s r =
    let v = and_ok (signed_at root_at) (json_of bytes) s r in
    let p = bind_ok (signed_parts v.0) _ s v.2 in
    let a = bind_ok (root_at p.0.0) (λ x. Some (record { role = x; signatures = p.0.1 })) s p.2 in
    root-own p.0.0 s.role (a.1 ∙ ap Some (ap (λ (x : SignedDoc RootDoc). x.role) (some-inj a.2)))
