-- A timestamp or snapshot that was read from bytes nests, as it is written, no deeper than is read.
use Rattle.std.proofs.Common.{◌≡◌, ◌≤◌, ℕ, zero, suc, List, [], ◌∷◌, Option, None, Some, option_map, option_and_then, Ordering, Less, Equal, Greater, codes, refl, sym, ap, ◌∙◌, subst, arith}
use Rattle.std.specs.Prelude.{ℤ, max, Bool, true, false, if◌then◌else◌}
use Rattle.std.specs.Str.{is_utf8}
use Rattle.serde_json.specs.Read.{read, max_depth}
use Rattle.serde_json.proofs.Nesting.{depth-read}
use Rattle.std.specs.Ordering.{nat_cmp, match_ordering}
use Rattle.std.specs.Cmp.Lexicographic.{slice_cmp}
use Rattle.serde_json.specs.Data.{Data, null, boolean, number, string, array, object, Members, no_members, member, put, depth, members_depth, Items, no_items, item, items_depth}
use Rattle.serde_json.specs.Find.{get_member, as_object}
use Rattle.tough_decoded.specs.Spelled.{Spelled, hex_bytes}
use Rattle.tough_json.specs.Moment.{moment_text}
use Rattle.tough_json.specs.Results.{json_of}
use Rattle.tough_json.specs.Reading.{◌>>=◌, without, required, unless_null, present, if_present, optional, stated, text, positive, whole, instant, hexadecimal, each, mapping, listing}
use Rattle.tough_json.specs.Writing.{if_free, with, with_optional, optional_json, positive_json, length_json, stands_for, hexadecimal_json, named, all_json}
use Rattle.tough_json.proofs.lemmas.Write.{bind_ok, some-inj}
use Rattle.tough_roles.specs.Head.{Head, head_at, with_moment, head_json}
use Rattle.tough_roles.specs.Readable.{NestsWithin}
use Rattle.tough_roles.specs.Signature.{SignatureDoc, SignedDoc, signature_at, signature_json, signed_parts, signed_parts_json, signed_at, signed_json}
use Rattle.tough_roles.specs.Snapshot.{SnapshotDoc, snapshot_at, snapshot_json}
use Rattle.tough_roles.specs.Timestamp.{HashesDoc, MetafileDoc, TimestampDoc, hashes_at, hashes_json, metafile_at, metafile_json, timestamp_at, timestamp_json}

-- ---- members

abbrev pub Below : ℕ → Members → Type 0
Below n ms = members_depth ms ≤ n

pub both : (a b n : ℕ) → a ≤ n → b ≤ n → max a b ≤ n
both a b n p q = omega (arith, p, q)

pub first : (a b n : ℕ) → max a b ≤ n → a ≤ n
first a b n p = omega (arith, p)

pub second : (a b n : ℕ) → max a b ≤ n → b ≤ n
second a b n p = omega (arith, p)

picked : (n : ℕ) (o : Ordering) (a b c : Members) → Below n a → Below n b → Below n c → Below n (match_ordering o a b c)
picked n Less a b c x y z = x
picked n Equal a b c x y z = y
picked n Greater a b c x y z = z

pub without-below : (n : ℕ) (k : List ℕ) (ms : Members) → Below n ms → Below n (without k ms)
without-below n k no_members h = h
without-below n k (member l e ms) h =
    let d = first (depth e) (members_depth ms) n h in
    let r = second (depth e) (members_depth ms) n h in
    let kept : Below n (member l e (without k ms)) = both (depth e) (members_depth (without k ms)) n d (without-below n k ms r) in
    picked n (slice_cmp nat_cmp k l) (member l e (without k ms)) ms (member l e (without k ms)) kept r kept

pub put-below : (n : ℕ) (k : List ℕ) (d : Data) (ms : Members) → depth d ≤ n → Below n ms → Below n (put k d ms)
put-below n k d no_members p h = both (depth d) 0 n p h
put-below n k d (member l e ms) p h =
    let x = first (depth e) (members_depth ms) n h in
    let r = second (depth e) (members_depth ms) n h in
    picked n (slice_cmp nat_cmp k l) (member k d (member l e ms)) (member l d ms) (member l e (put k d ms))
    (both (depth d) (members_depth (member l e ms)) n p h) (both (depth d) (members_depth ms) n p r)
    (both (depth e) (members_depth (put k d ms)) n x (put-below n k d ms p r))

abbrev pub OptBelow : ℕ → Option Data → Type 0
OptBelow n None = Unit {0}
OptBelow n (Some d) = depth d ≤ n

found : (n : ℕ) (o : Ordering) (e : Data) (x : Option Data) → depth e ≤ n → OptBelow n x → OptBelow n (match_ordering o x (Some e) x)
found n Less e x p h = h
found n Equal e x p h = p
found n Greater e x p h = h

pub get-below : (n : ℕ) (k : List ℕ) (ms : Members) → Below n ms → OptBelow n (get_member k ms)
get-below n k no_members h = tt
get-below n k (member l e ms) h =
    found n (slice_cmp nat_cmp k l) e (get_member k ms) (first (depth e) (members_depth ms) n h) (get-below n k ms (second (depth e) (members_depth ms) n h))

pub some-below : (n : ℕ) (o : Option Data) (d : Data) → o ≡ Some d → OptBelow n o → depth d ≤ n
some-below n o d e h = subst (λ (x : Option Data). OptBelow n x) e h

free-below : (n : ℕ) (o : Option Data) (a new : Members) → if_free o a ≡ Some new → Below n a → Below n new
free-below n None a new e h = subst (λ (ms : Members). Below n ms) (some-inj e) h
free-below n (Some d) a new e h = absurd (cc (e))

pub with-below : (n : ℕ) (k : List ℕ) (d : Data) (ms new : Members) → with k d ms ≡ Some new → depth d ≤ n → Below n ms → Below n new
with-below n k d ms new e p h = free-below n (get_member k ms) (put k d ms) new e (put-below n k d ms p h)

pub with_optional-below : (n : ℕ) (k : List ℕ) (o : Option Data) (ms new : Members) → with_optional k o ms ≡ Some new → OptBelow n o → Below n ms → Below n new
with_optional-below n k None ms new e p h = free-below n (get_member k ms) ms new e h
with_optional-below n k (Some d) ms new e p h = with-below n k d ms new e p h

-- ---- members that were read

pub record Came {A : Type 0} (k : List ℕ) (f : Data → Option A) (ms : Members) (r : A × Members) : Type 0 where
  pub from : Data
  pub there : get_member k ms ≡ Some from
  pub reads : f from ≡ Some r.0
  pub left : r.1 ≡ without k ms

came-read : {A : Type 0} (k : List ℕ) (f : Data → Option A) (ms : Members) (r : A × Members) (d : Data) (a : Option A) → f d ≡ a → get_member k ms ≡ Some d → option_map (λ x. (x, without k ms)) a ≡ Some r → Came k f ms r
came-read k f ms r d None p e h = absurd (cc (h))
came-read k f ms r d (Some a) p e h = record { from = d; there = e; reads = p ∙ ap Some (ap (λ x. x.0) (some-inj h)); left = ap (λ x. x.1) (sym (some-inj h)) }

came-at : {A : Type 0} (k : List ℕ) (f : Data → Option A) (ms : Members) (r : A × Members) (o : Option Data) → get_member k ms ≡ o → option_map (λ a. (a, without k ms)) (option_and_then f o) ≡ Some r → Came k f ms r
came-at k f ms r None e h = absurd (cc (h))
came-at k f ms r (Some d) e h = came-read k f ms r d (f d) refl e h

pub came : {A : Type 0} (k : List ℕ) (f : Data → Option A) (ms : Members) (r : A × Members) → required k f ms ≡ Some r → Came k f ms r
came k f ms r h = came-at k f ms r (get_member k ms) refl h

pub left-below : {A : Type 0} (n : ℕ) (k : List ℕ) (f : Data → Option A) (ms : Members) (r : A × Members) → Came k f ms r → Below n ms → Below n r.1
left-below n k f ms r c h = subst (λ (x : Members). Below n x) (sym c.left) (without-below n k ms h)

-- one that may be absent
data CameOr {A : Type 0} (k : List ℕ) (f : Data → Option A) (ms : Members) : Option A × Members → Type 0 where
  absent : CameOr k f ms (None, without k ms)
  there_is : (d : Data) (a : A) → get_member k ms ≡ Some d → f d ≡ Some a → CameOr k f ms (Some a, without k ms)

same-null : (d e : Data) → unless_null d ≡ Some e → e ≡ d
same-null null e h = absurd (cc (h))
same-null (boolean b) e h = sym (some-inj h)
same-null (number b) e h = sym (some-inj h)
same-null (string b) e h = sym (some-inj h)
same-null (array b) e h = sym (some-inj h)
same-null (object b) e h = sym (some-inj h)

present-is : (o : Option Data) (e : Data) → option_and_then unless_null o ≡ Some e → o ≡ Some e
present-is None e h = absurd (cc (h))
present-is (Some d) e h = ap Some (sym (same-null d e h))

or-read : {A : Type 0} (k : List ℕ) (f : Data → Option A) (ms : Members) (r : Option A × Members) (d : Data) (a : Option A) → f d ≡ a → get_member k ms ≡ Some d
    → option_map (λ x. (x, without k ms)) (option_map Some a) ≡ Some r → CameOr k f ms r
or-read k f ms r d None p e h = absurd (cc (h))
or-read k f ms r d (Some a) p e h = subst (CameOr k f ms) (some-inj h) (there_is d a e p)

or-at : {A : Type 0} (k : List ℕ) (f : Data → Option A) (ms : Members) (r : Option A × Members) (o : Option Data) → present k ms ≡ o → option_map (λ x. (x, without k ms)) (if_present f o) ≡ Some r → CameOr k f ms r
or-at k f ms r None e h = subst (CameOr k f ms) (some-inj h) absent
or-at k f ms r (Some d) e h = or-read k f ms r d (f d) refl (present-is (get_member k ms) d e) h

came-or : {A : Type 0} (k : List ℕ) (f : Data → Option A) (ms : Members) (r : Option A × Members) → optional k f ms ≡ Some r → CameOr k f ms r
came-or k f ms r h = or-at k f ms r (present k ms) refl h

rest-below : {A : Type 0} (n : ℕ) (k : List ℕ) (f : Data → Option A) (ms : Members) (r : Option A × Members) → CameOr k f ms r → Below n ms → Below n r.1
rest-below n k f ms r absent h = without-below n k ms h
rest-below n k f ms r (there_is d a e p) h = without-below n k ms h

-- the same where null is no value
stated-at : {A : Type 0} (k : List ℕ) (f : Data → Option A) (ms : Members) (r : Option A × Members) (o : Option Data) → get_member k ms ≡ o → option_map (λ x. (x, without k ms)) (if_present f o) ≡ Some r → CameOr k f ms r
stated-at k f ms r None e h = subst (CameOr k f ms) (some-inj h) absent
stated-at k f ms r (Some d) e h = or-read k f ms r d (f d) refl e h

came-stated : {A : Type 0} (k : List ℕ) (f : Data → Option A) (ms : Members) (r : Option A × Members) → stated k f ms ≡ Some r → CameOr k f ms r
came-stated k f ms r h = stated-at k f ms r (get_member k ms) refl h

-- ---- documents

object-of : (v : Data) (ms : Members) → as_object v ≡ Some ms → v ≡ object ms
object-of null ms h = absurd (cc (h))
object-of (boolean b) ms h = absurd (cc (h))
object-of (number b) ms h = absurd (cc (h))
object-of (string b) ms h = absurd (cc (h))
object-of (array b) ms h = absurd (cc (h))
object-of (object b) ms h = ap object (some-inj h)

pub inside : (n : ℕ) (v : Data) (ms : Members) → as_object v ≡ Some ms → depth v ≤ suc n → Below n ms
inside n v ms e h = let d : depth v ≡ suc (members_depth ms) = ap depth (object-of v ms e) in omega (arith, d, h)

pub outside : (n : ℕ) (d : Data) (ms : Members) → object ms ≡ d → Below n ms → depth d ≤ suc n
outside n d ms e h = let x : depth d ≡ suc (members_depth ms) = ap depth (sym e) in omega (arith, x, h)

pub text-if : (n : ℕ) (b : Bool) (s : List ℕ) (d : Data) → (if b then Some (string s) else None) ≡ Some d → depth d ≤ n
text-if n true s d e = subst (λ (x : Data). depth x ≤ n) (some-inj e) (omega arith)
text-if n false s d e = absurd (cc (e))

text-flat : (n : ℕ) (s : Spelled) (d : Data) → hexadecimal_json s ≡ Some d → depth d ≤ n
text-flat n s d e = text-if n (stands_for (hex_bytes s.spelling) s.bytes) s.spelling d e

pub number-flat : (n m : ℕ) (d : Data) → positive_json m ≡ Some d → depth d ≤ n
number-flat n zero d e = absurd (cc (e))
number-flat n (suc m) d e = subst (λ (x : Data). depth x ≤ n) (some-inj e) (omega arith)

size-flat : (n : ℕ) (size : Option ℕ) (o : Option Data) → optional_json length_json size ≡ Some o → OptBelow n o
size-flat n None o e = subst (λ (x : Option Data). OptBelow n x) (some-inj e) tt
size-flat n (Some m) o e = subst (λ (x : Option Data). OptBelow n x) (some-inj e) (omega arith)

digits-flat : (n : ℕ) (s : Option Spelled) (o : Option Data) → optional_json hexadecimal_json s ≡ Some o → OptBelow n o
digits-flat n None o e = subst (λ (x : Option Data). OptBelow n x) (some-inj e) tt
digits-flat n (Some s) o e =
    let inner = bind_ok (hexadecimal_json s) (λ d. Some (Some d)) o e in
    subst (λ (x : Option Data). OptBelow n x) (some-inj inner.2) (text-flat n s inner.0 inner.1)

-- what is left of the digests' members, and what is written of them
pub hashes-below : (n : ℕ) (v : Data) (h : HashesDoc) (d : Data) → hashes_at v ≡ Some h → hashes_json h ≡ Some d → depth v ≤ suc n → depth d ≤ suc n
unfolding hashes_at hashes_json
hashes-below n v h d r w le =
    let ms = bind_ok (as_object v) _ h r in
    let sha = bind_ok (required (codes "sha256") hexadecimal ms.0) _ h ms.2 in
    let more = bind_ok (stated (codes "sha512") hexadecimal sha.0.1) _ h sha.2 in
    let left : Below n sha.0.1 = left-below n (codes "sha256") hexadecimal ms.0 sha.0 (came (codes "sha256") hexadecimal ms.0 sha.0 sha.1) (inside n v ms.0 ms.1 le) in
    let is = came-stated (codes "sha512") hexadecimal sha.0.1 more.0 more.1 in
    let extra : Below n h.extra = subst (λ (x : HashesDoc). Below n x.extra) (some-inj more.2) (rest-below n (codes "sha512") hexadecimal sha.0.1 more.0 is left) in
    let second = bind_ok (optional_json hexadecimal_json h.sha512) _ d w in
    let rest = bind_ok (with_optional (codes "sha512") second.0 h.extra) _ d second.2 in
    let digits = bind_ok (hexadecimal_json h.sha256) (λ x. with (codes "sha256") x rest.0 >>= λ ys. Some (object ys)) d rest.2 in
    let members = bind_ok (with (codes "sha256") digits.0 rest.0) (λ ys. Some (object ys)) d digits.2 in
    let flat : depth digits.0 ≤ n = text-flat n h.sha256 digits.0 digits.1 in
    let long : Below n rest.0 = with_optional-below n (codes "sha512") second.0 h.extra rest.0 rest.1 (digits-flat n h.sha512 second.0 second.1) extra in
    outside n d members.0 (some-inj members.2) (with-below n (codes "sha256") digits.0 rest.0 members.0 members.1 flat long)

-- the digest of a metafile that was read, as it is written
inner-at : (n : ℕ) (ms : Members) (r : Option HashesDoc × Members) (o : Option Data) → CameOr (codes "hashes") hashes_at ms r → optional_json hashes_json r.0 ≡ Some o → Below (suc n) ms → OptBelow (suc n) o
inner-at n ms r o absent w h = subst (λ (x : Option Data). OptBelow (suc n) x) (some-inj w) tt
inner-at n ms r o (there_is v a e p) w h =
    let inner = bind_ok (hashes_json a) (λ d. Some (Some d)) o w in
    subst (λ (x : Option Data). OptBelow (suc n) x) (some-inj inner.2)
    (hashes-below n v a inner.0 p inner.1 (some-below (suc n) (get_member (codes "hashes") ms) v e (get-below (suc n) (codes "hashes") ms h)))

pub metafile-below : (n : ℕ) (v : Data) (m : MetafileDoc) (d : Data) → metafile_at v ≡ Some m → metafile_json m ≡ Some d → depth v ≤ suc (suc n) → depth d ≤ suc (suc n)
unfolding metafile_at metafile_json
metafile-below n v m d r w le =
    let ms = bind_ok (as_object v) _ m r in
    let version = bind_ok (required (codes "version") positive ms.0) _ m ms.2 in
    let size = bind_ok (optional (codes "length") whole version.0.1) _ m version.2 in
    let hashes = bind_ok (optional (codes "hashes") hashes_at size.0.1) _ m size.2 in
    let all : Below (suc n) ms.0 = inside (suc n) v ms.0 ms.1 le in
    let left : Below (suc n) version.0.1 = left-below (suc n) (codes "version") positive ms.0 version.0 (came (codes "version") positive ms.0 version.0 version.1) all in
    let rest : Below (suc n) size.0.1 = rest-below (suc n) (codes "length") whole version.0.1 size.0 (came-or (codes "length") whole version.0.1 size.0 size.1) left in
    let is = came-or (codes "hashes") hashes_at size.0.1 hashes.0 hashes.1 in
    let a = bind_ok (optional_json hashes_json m.hashes) _ d w in
    let b = bind_ok (with_optional (codes "hashes") a.0 m.extra) _ d a.2 in
    let f = bind_ok (optional_json length_json m.length) _ d b.2 in
    let g = bind_ok (with_optional (codes "length") f.0 b.0) _ d f.2 in
    let c = bind_ok (positive_json m.version) (λ x. with (codes "version") x g.0 >>= λ ys. Some (object ys)) d g.2 in
    let e = bind_ok (with (codes "version") c.0 g.0) (λ ys. Some (object ys)) d c.2 in
    let same = some-inj hashes.2 in
    let inner : OptBelow (suc n) a.0 = inner-at n size.0.1 hashes.0 a.0 is (subst (λ (x : MetafileDoc). optional_json hashes_json x.hashes ≡ Some a.0) (sym same) a.1) rest in
    let extra : Below (suc n) m.extra = subst (λ (x : MetafileDoc). Below (suc n) x.extra) same (rest-below (suc n) (codes "hashes") hashes_at size.0.1 hashes.0 is rest) in
    let flat : depth c.0 ≤ suc n = number-flat (suc n) m.version c.0 c.1 in
    let long : Below (suc n) g.0 = with_optional-below (suc n) (codes "length") f.0 b.0 g.0 g.1 (size-flat (suc n) m.length f.0 f.1) (with_optional-below (suc n) (codes "hashes") a.0 m.extra b.0 b.1 inner extra) in
    outside (suc n) d e.0 (some-inj e.2) (with-below (suc n) (codes "version") c.0 g.0 e.0 e.1 flat long)

if_utf8 : (b : Bool) (x : Option Data) (d : Data) → (if b then x else None) ≡ Some d → x ≡ Some d
if_utf8 true x d h = h
if_utf8 false x d h = cc

-- bytes that were read nest no deeper than the reader goes
read-shallow : (bytes : List ℕ) (d : Data) → json_of bytes ≡ Some d → depth d ≤ 127
unfolding json_of
read-shallow bytes d e = depth-read bytes d (if_utf8 (is_utf8 bytes) (read bytes) d e)

-- ---- maps

pub and_ok : {A B : Type 0} (f : A → Option B) (o : Option A) (b : B) → option_and_then f o ≡ Some b → (a : A) × (o ≡ Some a) × (f a ≡ Some b)
and_ok f (Some a) b h = (a, refl, h)
and_ok f None b h = absurd (cc (h))

abbrev pub AddsNone : {A : Type 0} → ℕ → (Data → Option A) → (A → Option Data) → Type 0
AddsNone n f g = (v : Data) (a : _) (d : Data) → f v ≡ Some a → g a ≡ Some d → depth v ≤ n → depth d ≤ n

pub each-named : {A : Type 0} (n : ℕ) (f : Data → Option A) (g : A → Option Data) → AddsNone n f g → (ms : Members) (es : List (List ℕ × A)) (out : Members)
    → each f ms ≡ Some es → named g es ≡ Some out → Below n ms → Below n out
unfolding each named
each-named n f g per no_members es out r w h =
    let x : named g [] ≡ Some out = subst (λ (xs : List _). named g xs ≡ Some out) (sym (some-inj r)) w in
    subst (Below n) (some-inj x) h
each-named n f g per (member k v ms) es out r w h =
    let a = bind_ok (f v) _ es r in
    let rest = bind_ok (each f ms) (λ xs. Some ((k, a.0) ∷ xs)) es a.2 in
    let x : named g ((k, a.0) ∷ rest.0) ≡ Some out = subst (λ (xs : List _). named g xs ≡ Some out) (sym (some-inj rest.2)) w in
    let d = bind_ok (g a.0) _ out x in
    let tail = bind_ok (named g rest.0) (λ xs. Some (member k d.0 xs)) out d.2 in
    let one = per v a.0 d.0 a.1 d.1 (first (depth v) (members_depth ms) n h) in
    let more = each-named n f g per ms rest.0 tail.0 rest.1 tail.1 (second (depth v) (members_depth ms) n h) in
    subst (Below n) (some-inj tail.2) (both (depth d.0) (members_depth tail.0) n one more)

pub mapping-named : {A : Type 0} (n : ℕ) (f : Data → Option A) (g : A → Option Data) → AddsNone n f g → (v : Data) (es : List (List ℕ × A)) (out : Members)
    → mapping f v ≡ Some es → named g es ≡ Some out → depth v ≤ suc n → depth (object out) ≤ suc n
mapping-named n f g per v es out r w h =
    let ms = and_ok (each f) (as_object v) es r in
    outside n (object out) out refl (each-named n f g per ms.0 es out ms.2 w (inside n v ms.0 ms.1 h))

-- ---- heads

pub head-left : (n : ℕ) (ms : Members) (r : Head × Members) → head_at ms ≡ Some r → Below n ms → Below n r.1
unfolding head_at
head-left n ms r e h =
    let a = bind_ok (required (codes "spec_version") text ms) _ r e in
    let b = bind_ok (required (codes "version") positive a.0.1) _ r a.2 in
    let c = bind_ok (required (codes "expires") instant b.0.1) _ r b.2 in
    let x : Below n a.0.1 = left-below n (codes "spec_version") text ms a.0 (came (codes "spec_version") text ms a.0 a.1) h in
    let y : Below n b.0.1 = left-below n (codes "version") positive a.0.1 b.0 (came (codes "version") positive a.0.1 b.0 b.1) x in
    let z : Below n c.0.1 = left-below n (codes "expires") instant b.0.1 c.0 (came (codes "expires") instant b.0.1 c.0 c.1) y in
    subst (λ (q : Head × Members). Below n q.1) (some-inj c.2) (without-below n (codes "_type") c.0.1 z)

pub flat : (n : ℕ) (s : List ℕ) → depth (string s) ≤ n
flat n s = omega arith

moment-below : (n : ℕ) (k : List ℕ) (z : ℤ) (ms out : Members) → with_moment k z ms ≡ Some out → Below n ms → Below n out
moment-below n k z ms out e h =
    let t = bind_ok (moment_text z) (λ t. with k (string t) ms) out e in
    with-below n k (string t.0) ms out t.2 (flat n t.0) h

pub head-written : (n : ℕ) (kind : List ℕ) (head : Head) (ms out : Members) → head_json kind head ms ≡ Some out → Below n ms → Below n out
unfolding head_json
head-written n kind head ms out e h =
    let a = bind_ok (with (codes "_type") (string kind) ms) _ out e in
    let b = bind_ok (with_moment (codes "expires") head.expires a.0) _ out a.2 in
    let c = bind_ok (positive_json head.version) (λ x. with (codes "version") x b.0 >>= λ ys. with (codes "spec_version") (string head.spec_version) ys) out b.2 in
    let d = bind_ok (with (codes "version") c.0 b.0) (λ ys. with (codes "spec_version") (string head.spec_version) ys) out c.2 in
    let x = with-below n (codes "_type") (string kind) ms a.0 a.1 (flat n kind) h in
    let y = moment-below n (codes "expires") head.expires a.0 b.0 b.1 x in
    let z = with-below n (codes "version") c.0 b.0 d.0 d.1 (number-flat n head.version c.0 c.1) y in
    with-below n (codes "spec_version") (string head.spec_version) d.0 out d.2 (flat n head.spec_version) z

-- ---- timestamps and snapshots

timestamp-below : (n : ℕ) (v : Data) (t : TimestampDoc) (d : Data) → timestamp_at v ≡ Some t → timestamp_json t ≡ Some d
    → depth v ≤ suc (suc (suc (suc n))) → depth d ≤ suc (suc (suc (suc n)))
unfolding timestamp_at timestamp_json
timestamp-below n v t d r w le =
    let m = suc (suc (suc n)) in
    let ms = bind_ok (as_object v) _ t r in
    let head = bind_ok (head_at ms.0) _ t ms.2 in
    let meta = bind_ok (required (codes "meta") (mapping metafile_at) head.0.1) _ t head.2 in
    let same = some-inj meta.2 in
    let all : Below m ms.0 = inside m v ms.0 ms.1 le in
    let left : Below m head.0.1 = head-left m ms.0 head.0 head.1 all in
    let c = came (codes "meta") (mapping metafile_at) head.0.1 meta.0 meta.1 in
    let from : depth c.from ≤ m = some-below m (get_member (codes "meta") head.0.1) c.from c.there (get-below m (codes "meta") head.0.1 left) in
    let extra : Below m t.extra = subst (λ (x : TimestampDoc). Below m x.extra) same (left-below m (codes "meta") (mapping metafile_at) head.0.1 meta.0 c left) in
    let inner = bind_ok (named metafile_json t.meta) _ d w in
    let put = bind_ok (with (codes "meta") (object inner.0) t.extra) _ d inner.2 in
    let out = bind_ok (head_json (codes "timestamp") t.head put.0) (λ ys. Some (object ys)) d put.2 in
    let listed : depth (object inner.0) ≤ m = mapping-named (suc (suc n)) metafile_at metafile_json (metafile-below n) c.from meta.0.0 inner.0 c.reads
    (subst (λ (x : TimestampDoc). named metafile_json x.meta ≡ Some inner.0) (sym same) inner.1) from in
    outside m d out.0 (some-inj out.2) (head-written m (codes "timestamp") t.head put.0 out.0 out.1 (with-below m (codes "meta") (object inner.0) t.extra put.0 put.1 listed extra))

snapshot-below : (n : ℕ) (v : Data) (t : SnapshotDoc) (d : Data) → snapshot_at v ≡ Some t → snapshot_json t ≡ Some d
    → depth v ≤ suc (suc (suc (suc n))) → depth d ≤ suc (suc (suc (suc n)))
unfolding snapshot_at snapshot_json
snapshot-below n v t d r w le =
    let m = suc (suc (suc n)) in
    let ms = bind_ok (as_object v) _ t r in
    let head = bind_ok (head_at ms.0) _ t ms.2 in
    let meta = bind_ok (required (codes "meta") (mapping metafile_at) head.0.1) _ t head.2 in
    let same = some-inj meta.2 in
    let all : Below m ms.0 = inside m v ms.0 ms.1 le in
    let left : Below m head.0.1 = head-left m ms.0 head.0 head.1 all in
    let c = came (codes "meta") (mapping metafile_at) head.0.1 meta.0 meta.1 in
    let from : depth c.from ≤ m = some-below m (get_member (codes "meta") head.0.1) c.from c.there (get-below m (codes "meta") head.0.1 left) in
    let extra : Below m t.extra = subst (λ (x : SnapshotDoc). Below m x.extra) same (left-below m (codes "meta") (mapping metafile_at) head.0.1 meta.0 c left) in
    let inner = bind_ok (named metafile_json t.meta) _ d w in
    let put = bind_ok (with (codes "meta") (object inner.0) t.extra) _ d inner.2 in
    let out = bind_ok (head_json (codes "snapshot") t.head put.0) (λ ys. Some (object ys)) d put.2 in
    let listed : depth (object inner.0) ≤ m = mapping-named (suc (suc n)) metafile_at metafile_json (metafile-below n) c.from meta.0.0 inner.0 c.reads
    (subst (λ (x : SnapshotDoc). named metafile_json x.meta ≡ Some inner.0) (sym same) inner.1) from in
    outside m d out.0 (some-inj out.2) (head-written m (codes "snapshot") t.head put.0 out.0 out.1 (with-below m (codes "meta") (object inner.0) t.extra put.0 put.1 listed extra))

-- ---- signed

signature-flat : (s : SignatureDoc) (d : Data) → signature_json s ≡ Some d → depth d ≤ 1
unfolding signature_json
signature-flat s d w =
    let a = bind_ok (hexadecimal_json s.sig) (λ x. with (codes "sig") x no_members >>= λ g. hexadecimal_json s.keyid >>= λ i. with (codes "keyid") i g >>= λ ys. Some (object ys)) d w in
    let b = bind_ok (with (codes "sig") a.0 no_members) (λ g. hexadecimal_json s.keyid >>= λ i. with (codes "keyid") i g >>= λ ys. Some (object ys)) d a.2 in
    let c = bind_ok (hexadecimal_json s.keyid) (λ i. with (codes "keyid") i b.0 >>= λ ys. Some (object ys)) d b.2 in
    let e = bind_ok (with (codes "keyid") c.0 b.0) (λ ys. Some (object ys)) d c.2 in
    let none : Below 0 no_members = omega arith in
    let x = with-below 0 (codes "sig") a.0 no_members b.0 b.1 (text-flat 0 s.sig a.0 a.1) none in
    outside 0 d e.0 (some-inj e.2) (with-below 0 (codes "keyid") c.0 b.0 e.0 e.1 (text-flat 0 s.keyid c.0 c.1) x)

signatures-flat : (ss : List SignatureDoc) (out : Items) → all_json signature_json ss ≡ Some out → items_depth out ≤ 1
unfolding all_json
signatures-flat [] out w = subst (λ (x : Items). items_depth x ≤ 1) (some-inj w) (omega arith)
signatures-flat (s ∷ ss) out w =
    let d = bind_ok (signature_json s) _ out w in
    let tail = bind_ok (all_json signature_json ss) (λ xs. Some (item d.0 xs)) out d.2 in
    subst (λ (x : Items). items_depth x ≤ 1) (some-inj tail.2) (both (depth d.0) (items_depth tail.0) 1 (signature-flat s d.0 d.1) (signatures-flat ss tail.0 tail.1))

pub parts-below : (n : ℕ) (role : Data) (ss : List SignatureDoc) (d : Data) → signed_parts_json role ss ≡ Some d → depth role ≤ suc (suc n) → depth d ≤ suc (suc (suc n))
unfolding signed_parts_json
parts-below n role ss d w h =
    let m = suc (suc n) in
    let items = bind_ok (all_json signature_json ss) _ d w in
    let listed = bind_ok (with (codes "signatures") (array items.0) no_members) (λ l. with (codes "signed") role l >>= λ ys. Some (object ys)) d items.2 in
    let out = bind_ok (with (codes "signed") role listed.0) (λ ys. Some (object ys)) d listed.2 in
    let low : items_depth items.0 ≤ 1 = signatures-flat ss items.0 items.1 in
    let none : Below m no_members = omega arith in
    let x = with-below m (codes "signatures") (array items.0) no_members listed.0 listed.1 (omega (arith, low)) none in
    outside m d out.0 (some-inj out.2) (with-below m (codes "signed") role listed.0 out.0 out.1 h x)

pub role-below : (n : ℕ) (v : Data) (p : Data × List SignatureDoc) → signed_parts v ≡ Some p → depth v ≤ suc n → depth p.0 ≤ n
unfolding signed_parts
role-below n v p r le =
    let ms = bind_ok (as_object v) _ p r in
    let role = bind_ok (required (codes "signed") Some ms.0) _ p ms.2 in
    let sigs = bind_ok (required (codes "signatures") (listing signature_at) role.0.1) _ p role.2 in
    let c = came (codes "signed") Some ms.0 role.0 role.1 in
    let from : depth c.from ≤ n = some-below n (get_member (codes "signed") ms.0) c.from c.there (get-below n (codes "signed") ms.0 (inside n v ms.0 ms.1 le)) in
    let is : c.from ≡ p.0 = some-inj c.reads ∙ ap (λ (x : Data × List SignatureDoc). x.0) (some-inj sigs.2) in
    subst (λ (x : Data). depth x ≤ n) is from

-- any role whose writing adds no depth
pub signed-below : {A : Type 0} (n : ℕ) (f : Data → Option A) (g : A → Option Data) → AddsNone (suc (suc n)) f g → AddsNone (suc (suc (suc n))) (signed_at f) (signed_json g)
signed-below n f g per v s d r w le =
    let p = bind_ok (signed_parts v) _ s r in
    let a = bind_ok (f p.0.0) (λ x. Some (record { role = x; signatures = p.0.1 })) s p.2 in
    let is = ap (λ (x : SignedDoc _). x.role) (some-inj a.2) in
    let b = bind_ok (g s.role) (λ x. signed_parts_json x s.signatures) d w in
    let wrote : g a.0 ≡ Some b.0 = subst (λ x. g x ≡ Some b.0) (sym is) b.1 in
    parts-below n b.0 s.signatures d b.2 (per p.0.0 a.0 b.0 a.1 wrote (role-below (suc (suc n)) v p.0 p.1 le))

pub shallow : {A : Type 0} (f : Data → Option A) (g : A → Option Data) → AddsNone 126 f g → (bytes : List ℕ) (s : SignedDoc A) (o : Option Data) → option_and_then (signed_at f) (json_of bytes) ≡ Some s → signed_json g s ≡ o → NestsWithin max_depth o
shallow f g per bytes s None r w = tt
shallow f g per bytes s (Some d) r w =
    let v = and_ok (signed_at f) (json_of bytes) s r in
    signed-below 124 f g per v.0 s d v.2 w (read-shallow bytes v.0 v.1)

pub timestamp-shallow : (bytes : List ℕ) (s : SignedDoc TimestampDoc) → option_and_then (signed_at timestamp_at) (json_of bytes) ≡ Some s → NestsWithin max_depth (signed_json timestamp_json s)
timestamp-shallow bytes s r = shallow timestamp_at timestamp_json (timestamp-below 122) bytes s (signed_json timestamp_json s) r refl

pub snapshot-shallow : (bytes : List ℕ) (s : SignedDoc SnapshotDoc) → option_and_then (signed_at snapshot_at) (json_of bytes) ≡ Some s → NestsWithin max_depth (signed_json snapshot_json s)
snapshot-shallow bytes s r = shallow snapshot_at snapshot_json (snapshot-below 122) bytes s (signed_json snapshot_json s) r refl
