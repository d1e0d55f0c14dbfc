-- How deep the JSON of a document nests, by that of its parts.
use Rattle.std.proofs.Common.{◌≡◌, ◌≤◌, ℕ, zero, suc, List, [], ◌∷◌, Option, None, Some, Ordering, Less, Equal, Greater, codes, ap, sym, subst, arith}
use Rattle.std.specs.Prelude.{ℤ, max, Bool, true, false, if◌then◌else◌}
use Rattle.std.specs.Ordering.{nat_cmp, match_ordering}
use Rattle.std.specs.Cmp.Lexicographic.{slice_cmp}
use Rattle.serde_json.specs.Data.{Data, string, array, object, Members, no_members, member, put, depth, members_depth, Items, item, items_depth}
use Rattle.serde_json.specs.Find.{get_member}
use Rattle.tough_decoded.specs.Spelled.{Spelled, hex_bytes}
use Rattle.tough_json.specs.Moment.{moment_text}
use Rattle.tough_json.specs.Reading.{◌>>=◌}
use Rattle.tough_json.specs.Writing.{if_free, with, with_optional, positive_json, stands_for, hexadecimal_json, all_json}
use Rattle.tough_json.proofs.lemmas.Write.{bind_ok, some-inj}
use Rattle.tough_roles.specs.Head.{Head, with_moment, head_json}
use Rattle.tough_roles.specs.Signature.{SignatureDoc, signature_json, signed_parts_json}

-- ---- members

abbrev pub Below : ℕ → Members → Type 0
Below n ms = members_depth ms ≤ n

pub both : (a b n : ℕ) → a ≤ n → b ≤ n → max a b ≤ n
both a b n p q = omega (arith, p, q)

first : (a b n : ℕ) → max a b ≤ n → a ≤ n
first a b n p = omega (arith, p)

second : (a b n : ℕ) → max a b ≤ n → b ≤ n
second a b n p = omega (arith, p)

picked : (n : ℕ) (o : Ordering) (a b c : Members) → Below n a → Below n b → Below n c → Below n (match_ordering o a b c)
picked n Less a b c x y z = x
picked n Equal a b c x y z = y
picked n Greater a b c x y z = z

put-below : (n : ℕ) (k : List ℕ) (d : Data) (ms : Members) → depth d ≤ n → Below n ms → Below n (put k d ms)
put-below n k d no_members p h = both (depth d) 0 n p h
put-below n k d (member l e ms) p h =
    let x = first (depth e) (members_depth ms) n h in
    let r = second (depth e) (members_depth ms) n h in
    picked n (slice_cmp nat_cmp k l) (member k d (member l e ms)) (member l d ms) (member l e (put k d ms))
    (both (depth d) (members_depth (member l e ms)) n p h) (both (depth d) (members_depth ms) n p r)
    (both (depth e) (members_depth (put k d ms)) n x (put-below n k d ms p r))

abbrev pub OptBelow : ℕ → Option Data → Type 0
OptBelow n None = Unit {0}
OptBelow n (Some d) = depth d ≤ n

free-below : (n : ℕ) (o : Option Data) (a new : Members) → if_free o a ≡ Some new → Below n a → Below n new
free-below n None a new e h = subst (λ (ms : Members). Below n ms) (some-inj e) h
free-below n (Some d) a new e h = absurd (cc (e))

pub with-below : (n : ℕ) (k : List ℕ) (d : Data) (ms new : Members) → with k d ms ≡ Some new → depth d ≤ n → Below n ms → Below n new
with-below n k d ms new e p h = free-below n (get_member k ms) (put k d ms) new e (put-below n k d ms p h)

pub with_optional-below : (n : ℕ) (k : List ℕ) (o : Option Data) (ms new : Members) → with_optional k o ms ≡ Some new → OptBelow n o → Below n ms → Below n new
with_optional-below n k None ms new e p h = free-below n (get_member k ms) ms new e h
with_optional-below n k (Some d) ms new e p h = with-below n k d ms new e p h

-- ---- documents

pub outside : (n : ℕ) (d : Data) (ms : Members) → object ms ≡ d → Below n ms → depth d ≤ suc n
outside n d ms e h = let x : depth d ≡ suc (members_depth ms) = ap depth (sym e) in omega (arith, x, h)

text-if : (n : ℕ) (b : Bool) (s : List ℕ) (d : Data) → (if b then Some (string s) else None) ≡ Some d → depth d ≤ n
text-if n true s d e = subst (λ (x : Data). depth x ≤ n) (some-inj e) (omega arith)
text-if n false s d e = absurd (cc (e))

pub text-flat : (n : ℕ) (s : Spelled) (d : Data) → hexadecimal_json s ≡ Some d → depth d ≤ n
text-flat n s d e = text-if n (stands_for (hex_bytes s.spelling) s.bytes) s.spelling d e

pub number-flat : (n m : ℕ) (d : Data) → positive_json m ≡ Some d → depth d ≤ n
number-flat n zero d e = absurd (cc (e))
number-flat n (suc m) d e = subst (λ (x : Data). depth x ≤ n) (some-inj e) (omega arith)

flat : (n : ℕ) (s : List ℕ) → depth (string s) ≤ n
flat n s = omega arith

moment-below : (n : ℕ) (k : List ℕ) (z : ℤ) (ms out : Members) → with_moment k z ms ≡ Some out → Below n ms → Below n out
moment-below n k z ms out e h =
    let t = bind_ok (moment_text z) (λ t. with k (string t) ms) out e in
    with-below n k (string t.0) ms out t.2 (flat n t.0) h

pub head-written : (n : ℕ) (kind : List ℕ) (head : Head) (ms out : Members) → head_json kind head ms ≡ Some out → Below n ms → Below n out
unfolding head_json
head-written n kind head ms out e h =
    let a = bind_ok (with (codes "_type") (string kind) ms) _ out e in
    let b = bind_ok (with_moment (codes "expires") head.expires a.0) _ out a.2 in
    let c = bind_ok (positive_json head.version) (λ x. with (codes "version") x b.0 >>= λ ys. with (codes "spec_version") (string head.spec_version) ys) out b.2 in
    let d = bind_ok (with (codes "version") c.0 b.0) (λ ys. with (codes "spec_version") (string head.spec_version) ys) out c.2 in
    let x = with-below n (codes "_type") (string kind) ms a.0 a.1 (flat n kind) h in
    let y = moment-below n (codes "expires") head.expires a.0 b.0 b.1 x in
    let z = with-below n (codes "version") c.0 b.0 d.0 d.1 (number-flat n head.version c.0 c.1) y in
    with-below n (codes "spec_version") (string head.spec_version) d.0 out d.2 (flat n head.spec_version) z

-- ---- signed

signature-flat : (s : SignatureDoc) (d : Data) → signature_json s ≡ Some d → depth d ≤ 1
unfolding signature_json
signature-flat s d w =
    let a = bind_ok (hexadecimal_json s.sig) (λ x. with (codes "sig") x no_members >>= λ g. hexadecimal_json s.keyid >>= λ i. with (codes "keyid") i g >>= λ ys. Some (object ys)) d w in
    let b = bind_ok (with (codes "sig") a.0 no_members) (λ g. hexadecimal_json s.keyid >>= λ i. with (codes "keyid") i g >>= λ ys. Some (object ys)) d a.2 in
    let c = bind_ok (hexadecimal_json s.keyid) (λ i. with (codes "keyid") i b.0 >>= λ ys. Some (object ys)) d b.2 in
    let e = bind_ok (with (codes "keyid") c.0 b.0) (λ ys. Some (object ys)) d c.2 in
    let none : Below 0 no_members = omega arith in
    let x = with-below 0 (codes "sig") a.0 no_members b.0 b.1 (text-flat 0 s.sig a.0 a.1) none in
    outside 0 d e.0 (some-inj e.2) (with-below 0 (codes "keyid") c.0 b.0 e.0 e.1 (text-flat 0 s.keyid c.0 c.1) x)

signatures-flat : (ss : List SignatureDoc) (out : Items) → all_json signature_json ss ≡ Some out → items_depth out ≤ 1
unfolding all_json
signatures-flat [] out w = subst (λ (x : Items). items_depth x ≤ 1) (some-inj w) (omega arith)
signatures-flat (s ∷ ss) out w =
    let d = bind_ok (signature_json s) _ out w in
    let tail = bind_ok (all_json signature_json ss) (λ xs. Some (item d.0 xs)) out d.2 in
    subst (λ (x : Items). items_depth x ≤ 1) (some-inj tail.2) (both (depth d.0) (items_depth tail.0) 1 (signature-flat s d.0 d.1) (signatures-flat ss tail.0 tail.1))

pub parts-below : (n : ℕ) (role : Data) (ss : List SignatureDoc) (d : Data) → signed_parts_json role ss ≡ Some d → depth role ≤ suc (suc n) → depth d ≤ suc (suc (suc n))
unfolding signed_parts_json
parts-below n role ss d w h =
    let m = suc (suc n) in
    let items = bind_ok (all_json signature_json ss) _ d w in
    let listed = bind_ok (with (codes "signatures") (array items.0) no_members) (λ l. with (codes "signed") role l >>= λ ys. Some (object ys)) d items.2 in
    let out = bind_ok (with (codes "signed") role listed.0) (λ ys. Some (object ys)) d listed.2 in
    let low : items_depth items.0 ≤ 1 = signatures-flat ss items.0 items.1 in
    let none : Below m no_members = omega arith in
    let x = with-below m (codes "signatures") (array items.0) no_members listed.0 listed.1 (omega (arith, low)) none in
    outside m d out.0 (some-inj out.2) (with-below m (codes "signed") role listed.0 out.0 out.1 h x)
