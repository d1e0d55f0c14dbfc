-- A targets document with another value under `targets`.
use Rattle.std.proofs.Common.{◌≡◌, ℕ, List, [], ◌∷◌, ◌++◌, false, codes, Option, Some, option_and_then, bytes_eq, string_bytes, nat_cmp, refl, sym, ap, ◌∙◌, true≢false}
use Rattle.std.proofs.lemmas.Slice.Eq.{bytes_eq-Decides}
use Rattle.std.specs.Cmp.Lexicographic.{slice_cmp}
use Rattle.std.specs.Ordering.{match_ordering}
use Rattle.serde_json.specs.Data.{Data, string, object, Members, no_members, put}
use Rattle.serde_json.specs.Find.{get_member}
use Rattle.serde_json.specs.View.{view, members_view}
use Rattle.serde_json.proofs.Views.{Entry, get_member-put, get_member-put_other, member_later}
use Rattle.tough_json.specs.declared.pieces.Form.{Form}
use Rattle.tough_json.specs.Pieces.{text_in, replaced, Appends}
use Rattle.tough_json.specs.Moment.{moment_text}
use Rattle.tough_json.specs.Reading.{◌>>=◌}
use Rattle.tough_json.specs.Writing.{with, with_optional, optional_json, positive_json}
use Rattle.tough_json.proofs.lemmas.Piece.{with-replaced, with-place}
use Rattle.tough_json.proofs.lemmas.Write.{bind_ok, if_free-ok}
use Rattle.tough_roles.specs.Head.{Head, with_moment, head_json}
use Rattle.tough_schema.specs.Delegations.{delegations_json}
use Rattle.tough_schema.specs.Targets.{TargetsDoc, listing_json, parts_json, around_json, targets_json}

onward : {A B : Type 0} (o : Option A) (a : A) (f : A → Option B) (b : B) → o ≡ Some a → f a ≡ Some b → (o >>= f) ≡ Some b
onward o a f b h k = rw h k

head-replaced : (head : Head) (x : Data) (ms new : Members) → head_json (codes "targets") head ms ≡ Some new → head_json (codes "targets") head (replaced (codes "targets") x ms) ≡ Some (replaced (codes "targets") x new)
unfolding head_json
head-replaced head x ms new h =
    let n = codes "targets" in
    let a = bind_ok (with (codes "_type") (string n) ms) _ new h in
    let b = bind_ok (with_moment (codes "expires") head.expires a.0) _ new a.2 in
    let m = bind_ok (moment_text head.expires) _ b.0 b.1 in
    let v = bind_ok (positive_json head.version) _ new b.2 in
    let w = bind_ok (with (codes "version") v.0 b.0) _ new v.2 in
    let at = replaced n x in
    onward (with (codes "_type") (string n) (at ms)) (at a.0) _ _ (with-replaced (codes "_type") n (string n) x ms a.0 refl a.1)
    (onward (with_moment (codes "expires") head.expires (at a.0)) (at b.0) _ _ (onward (moment_text head.expires) m.0 _ _ m.1 (with-replaced (codes "expires") n (string m.0) x a.0 b.0 refl m.2))
    (onward (positive_json head.version) v.0 _ _ v.1
    (onward (with (codes "version") v.0 (at b.0)) (at w.0) _ _ (with-replaced (codes "version") n v.0 x b.0 w.0 refl w.1)
    (with-replaced (codes "spec_version") n (string head.spec_version) x w.0 new refl w.2))))

parts-replaced : (d x : Data) (t : TargetsDoc) (ms new : Members) → parts_json d t ms ≡ Some new → parts_json x t ms ≡ Some (replaced (codes "targets") x new)
unfolding parts_json
parts-replaced d x t ms new h =
    let a = bind_ok (optional_json delegations_json t.delegations) _ new h in
    let b = bind_ok (with_optional (codes "delegations") a.0 ms) _ new a.2 in
    onward (optional_json delegations_json t.delegations) a.0 _ _ a.1 (onward (with_optional (codes "delegations") a.0 ms) b.0 _ _ b.1 (with-place (codes "targets") d x b.0 new b.2))

pub around-replaced : (d x : Data) (t : TargetsDoc) (new : Members) → around_json d t ≡ Some new → around_json x t ≡ Some (replaced (codes "targets") x new)
unfolding around_json
around-replaced d x t new h =
    let a = bind_ok (parts_json d t t.extra) _ new h in
    onward (parts_json x t t.extra) (replaced (codes "targets") x a.0) _ _ (parts-replaced d x t t.extra a.0 a.1) (head-replaced t.head x a.0 new a.2)

-- ---- which value stands under `targets`

-- another member leaves it
kept : (n k : List ℕ) (d : Data) (ms new : Members) → bytes_eq n k ≡ false → with k d ms ≡ Some new → get_member n new ≡ get_member n ms
kept n k d ms new apart h =
    let other : n ≡ k → ⊥ = λ same. true≢false (sym ((bytes_eq-Decides n k).1 same) ∙ apart) in
    ap (get_member n) (sym (if_free-ok (get_member k ms) (put k d ms) new h).1) ∙ get_member-put_other n k d ms other

head-keeps : (head : Head) (ms new : Members) → head_json (codes "targets") head ms ≡ Some new → get_member (codes "targets") new ≡ get_member (codes "targets") ms
unfolding head_json
head-keeps head ms new h =
    let n = codes "targets" in
    let a = bind_ok (with (codes "_type") (string n) ms) _ new h in
    let b = bind_ok (with_moment (codes "expires") head.expires a.0) _ new a.2 in
    let m = bind_ok (moment_text head.expires) _ b.0 b.1 in
    let v = bind_ok (positive_json head.version) _ new b.2 in
    let w = bind_ok (with (codes "version") v.0 b.0) _ new v.2 in
    kept n (codes "spec_version") (string head.spec_version) w.0 new refl w.2
    ∙ kept n (codes "version") v.0 b.0 w.0 refl w.1
    ∙ kept n (codes "expires") (string m.0) a.0 b.0 refl m.2
    ∙ kept n (codes "_type") (string n) ms a.0 refl a.1

parts-have : (d : Data) (t : TargetsDoc) (ms new : Members) → parts_json d t ms ≡ Some new → get_member (codes "targets") new ≡ Some d
unfolding parts_json
parts-have d t ms new h =
    let n = codes "targets" in
    let a = bind_ok (optional_json delegations_json t.delegations) _ new h in
    let b = bind_ok (with_optional (codes "delegations") a.0 ms) _ new a.2 in
    ap (get_member n) (sym (if_free-ok (get_member n b.0) (put n d b.0) new b.2).1) ∙ get_member-put n d b.0

around-has : (d : Data) (t : TargetsDoc) (new : Members) → around_json d t ≡ Some new → get_member (codes "targets") new ≡ Some d
unfolding around_json
around-has d t new h =
    let a = bind_ok (parts_json d t t.extra) _ new h in
    head-keeps t.head a.0 new a.2 ∙ parts-have d t t.extra a.0 a.1

-- ---- the text

-- that of the whole, where the listing stands under `targets`
whole : (form : Form) (d : Data) (t : TargetsDoc) (listed around : Members) (text : List ℕ) → listing_json t.targets no_members ≡ Some listed → around_json d t ≡ Some around
    → text_in form (object (replaced (codes "targets") (object listed) around)) ≡ Some text → option_and_then (text_in form) (targets_json t) ≡ Some text
unfolding targets_json
whole form d t listed around text l a h = rw (l, around-replaced d (object listed) t around a) h

pub whole-text : (form : Form) (d : Data) (t : TargetsDoc) (around : Members) (before after : List ℕ) → around_json d t ≡ Some around
    → ((e : Data) → get_member (codes "targets") around ≡ Some e → (ms : Members) × (listing_json t.targets no_members ≡ Some ms) × Appends before (text_in form (object (replaced (codes "targets") (object ms) around))) after)
    → Appends before (option_and_then (text_in form) (targets_json t)) after
whole-text form d t around before after a h =
    let l = h d (around-has d t around a) in
    (l.2.0, whole form d t l.0 around l.2.0 l.1 a l.2.1, l.2.2)

-- a member of another name
pub has-more : (n : List ℕ) (es : List Entry) (e : Entry) → bytes_eq (string_bytes e.0) n ≡ false → get_member n (members_view (es ++ e ∷ [])) ≡ get_member n (members_view es)
has-more n [] e apart = member_later n e [] (λ is. true≢false (sym ((bytes_eq-Decides (string_bytes e.0) n).1 (sym is)) ∙ apart))
has-more n (f ∷ fs) e apart = ap (λ r. match_ordering (slice_cmp nat_cmp n (string_bytes f.0)) r (Some (view f.1)) r) (has-more n fs e apart)
