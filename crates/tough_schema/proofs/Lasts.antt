-- Members that are read from the last on: of a name the one that is met first counts.
use Rattle.std.proofs.Common.{◌≡◌, ℕ, List, [], ◌∷◌, ◌++◌, Bool, true, false, bytes_eq, cond, ◌||◌, Option, Some, None, option_map, option_and_then, is_some, Result, Ok, Err, Ordering, Less, Equal, Greater, is_eq, nat_cmp, Bor, refl, sym, ap, subst, ◌∙◌}
use Rattle.std.specs.BTreeMap.{insert_entry, is_at}
use Rattle.std.specs.Cmp.Lexicographic.{slice_cmp}
use Rattle.std.specs.Map.{lookup}
use Rattle.std.specs.Ordering.{match_ordering, ordering_reverse, ordering_then}
use Rattle.std.proofs.lemmas.Cmp.{nat_list_cmp_total, tied_itself}
use Rattle.std.proofs.lemmas.Slice.Eq.{bytes_eq-Decides}
use Rattle.std.proofs.lemmas.Map.Text.{is_eq-slice_cmp}
use Rattle.json.specs.Json as json
use Rattle.json.specs.declared.value.Value.{Value as Borrowed}
use Rattle.json.specs.Value.{value_view as json_view, members_view as json_members}
use Rattle.serde_json.specs.Data.{Data, Members, no_members, member, put}
use Rattle.serde_json.specs.Find.{get_member}
use Rattle.serde_json.specs.Read.{of_json, of_members}
use Rattle.serde_json.proofs.Views.{get_member-put, get_member-put_other}
use Rattle.tough_json.specs.Pieces.{IsBelow}
use Rattle.tough_json.specs.Reading.{◌>>=◌}
use Rattle.tough_json.proofs.lemmas.Borrowed.{bound, Rises, rises-put}
use Rattle.tough_json.proofs.lemmas.Write.{bind_ok, some-inj}
use Rattle.tough_names.specs.declared.name.NameError.{NameError}
use Rattle.tough_names.specs.Named.{Named, clean, by_raw_then_resolved}
use Rattle.tough_roles.proofs.lemmas.Tables.{lookup-insert, free-from, put-table}
use Rattle.tough_schema.specs.declared.target.Target.{Target}
use Rattle.tough_schema.specs.Target.{TargetDoc, target_doc, target_at}
use Rattle.tough_schema.specs.Targets.{if_clean, name_at, entry_at, listing_doc, listing_from}
use Rattle.tough_schema.proofs.ListingLemmas.{listing-more, listing-refused, listing-done}
use Rattle.tough_schema.proofs.TargetsLemmas.{names_total}
use Rattle.tough_schema.proofs.lemmas.Wholes.{lookup-listing}

-- ---- two objects that have the same under each name are one

turned : (a b : List ℕ) → slice_cmp nat_cmp a b ≡ Greater → slice_cmp nat_cmp b a ≡ Less
turned a b h = nat_list_cmp_total.antisymm b a ∙ ap ordering_reverse h

same_text : (xs : List ℕ) → slice_cmp nat_cmp xs xs ≡ Equal
same_text xs = tied_itself nat_list_cmp_total xs

equal_is : (k l : List ℕ) → slice_cmp nat_cmp k l ≡ Equal → k ≡ l
equal_is k l h = (bytes_eq-Decides k l).0 (sym (is_eq-slice_cmp k l) ∙ ap is_eq h)

below_below : (a b : List ℕ) (ms : Members) → slice_cmp nat_cmp a b ≡ Less → IsBelow b ms → IsBelow a ms
below_below a b no_members h below = tt
below_below a b (member k d ms) h below = (nat_list_cmp_total.trans a b k h below.0, below_below a b ms h below.1)

none_below : (k : List ℕ) (ms : Members) → IsBelow k ms → get_member k ms ≡ None
none_below k no_members below = refl
none_below k (member l e ms) below = rw (below.0) (none_below k ms below.1)

here : (k : List ℕ) (d : Data) (ms : Members) → get_member k (member k d ms) ≡ Some d
here k d ms = rw (same_text k) refl

less_here : (k l : List ℕ) (e : Data) (ms : Members) → slice_cmp nat_cmp k l ≡ Less → get_member k (member l e ms) ≡ get_member k ms
less_here k l e ms h = rw h refl

-- what is below the first isn't there
none_first : (k l : List ℕ) (e : Data) (ms : Members) → slice_cmp nat_cmp k l ≡ Less → Rises (member l e ms) → get_member k (member l e ms) ≡ None
none_first k l e ms h rise = none_below k (member l e ms) (h, below_below k l ms h rise.0)

none_some : {A B : Type 0} {x : A} → Some x ≡ None → B
none_some h = cc

other_at : (o : Ordering) (q k : List ℕ) (x y : Option Data) (d : Data) → (q ≡ k → x ≡ y) → slice_cmp nat_cmp q k ≡ o → match_ordering o x (Some d) x ≡ match_ordering o y (Some d) y → x ≡ y
other_at Less q k x y d same is h = h
other_at Equal q k x y d same is h = same (equal_is q k is)
other_at Greater q k x y d same is h = h

rest_same : (k : List ℕ) (d : Data) (xs ys : Members) → IsBelow k xs → IsBelow k ys → ((q : List ℕ) → get_member q (member k d xs) ≡ get_member q (member k d ys)) → (q : List ℕ) → get_member q xs ≡ get_member q ys
rest_same k d xs ys above below h q =
    other_at (slice_cmp nat_cmp q k) q k (get_member q xs) (get_member q ys) d
    (λ is. ap (λ z. get_member z xs) is ∙ none_below k xs above ∙ sym (none_below k ys below) ∙ ap (λ z. get_member z ys) (sym is)) refl (h q)

first_same : (k l : List ℕ) (d e : Data) (xs ys : Members) → k ≡ l → ((q : List ℕ) → get_member q (member k d xs) ≡ get_member q (member l e ys)) → d ≡ e
first_same k l d e xs ys is h = some-inj (sym (here k d xs) ∙ h k ∙ ap (λ z. get_member z (member l e ys)) is ∙ here l e ys)

both_same : (k l : List ℕ) (d e : Data) (xs ys : Members) → k ≡ l → d ≡ e → xs ≡ ys → member k d xs ≡ member l e ys
both_same k l d e xs ys p q r = ap (λ z. member z d xs) p ∙ ap (λ z. member l z xs) q ∙ ap (member l e) r

same_first : (o : Ordering) (k l : List ℕ) (d e : Data) (xs ys : Members) → slice_cmp nat_cmp k l ≡ o → Rises (member k d xs) → Rises (member l e ys) → ((q : List ℕ) → get_member q (member k d xs) ≡ get_member q (member l e ys)) → k ≡ l
same_first Less k l d e xs ys is rise more h = none_some (sym (here k d xs) ∙ h k ∙ none_first k l e ys is more)
same_first Equal k l d e xs ys is rise more h = equal_is k l is
same_first Greater k l d e xs ys is rise more h = none_some (sym (here l e ys) ∙ sym (h l) ∙ none_first l k d xs (turned k l is) rise)

pub same-members : (xs ys : Members) → Rises xs → Rises ys → ((q : List ℕ) → get_member q xs ≡ get_member q ys) → xs ≡ ys
same-members no_members no_members rise more h = refl
same-members no_members (member l e ys) rise more h = none_some (sym (h l ∙ here l e ys))
same-members (member k d xs) no_members rise more h = none_some (sym (here k d xs) ∙ h k)
same-members (member k d xs) (member l e ys) rise more h =
    let is = same_first (slice_cmp nat_cmp k l) k l d e xs ys refl rise more h in
    let same = first_same k l d e xs ys is h in
    let there : (q : List ℕ) → get_member q (member k d xs) ≡ get_member q (member k d ys) = λ q. h q ∙ ap (λ z. get_member q (member z e ys)) (sym is) ∙ ap (λ z. get_member q (member k z ys)) (sym same) in
    both_same k l d e xs ys is same (same-members xs ys rise.1 more.1 (rest_same k d xs ys rise.0 (subst (λ z. IsBelow z ys) (sym is) more.0) there))

pub rises-of : (js : json.Members) (found ms : Members) → of_members js found ≡ Some ms → Rises found → Rises ms
rises-of json.no_members found ms h rise = subst Rises (some-inj h) rise
rises-of (json.member l j js) found ms h rise =
    let d = bound (λ x. of_members js (put l x found)) (of_json j) ms h in
    rises-of js (put l d.0 found) ms d.2 (rises-put l d.0 found rise)

-- ---- the last of the members

pub popped : {A : Type 0} → (xs : List (Bor (List ℕ) × Borrowed A)) (x : Bor (List ℕ) × Borrowed A) (found base : Members) → of_members (json_members (xs ++ x ∷ [])) found ≡ Some base
    → (d : Data) × (b : Members) × (of_json (json_view x.1) ≡ Some d) × (of_members (json_members xs) found ≡ Some b) × (put x.0.now d b ≡ base)
popped [] x found base h =
    let d = bound (λ d. of_members json.no_members (put x.0.now d found)) (of_json (json_view x.1)) base h in
    (d.0, found, d.1, refl, some-inj d.2)
popped (y ∷ xs) x found base h =
    let d = bound (λ d. of_members (json_members (xs ++ x ∷ [])) (put y.0.now d found)) (of_json (json_view y.1)) base h in
    let r = popped xs x (put y.0.now d.0 found) base d.2 in
    (r.0, r.1, r.2, ap (option_and_then (λ z. of_members (json_members xs) (put y.0.now z found))) d.1 ∙ r.3, r.4)

-- ---- a name that was read

named_raw : (raw : List ℕ) (o : Result (List ℕ) NameError) (n : Named) → if_clean raw o ≡ Some n → n.raw ≡ raw
named_raw raw (Ok r) n h = ap (λ (m : Named). m.raw) (sym (some-inj h))
named_raw raw (Err e) n h = cc

raw_is : (raw : List ℕ) (n : Named) → name_at raw ≡ Some n → n.raw ≡ raw
raw_is raw n h = named_raw raw (clean raw) n h

eq_then : (o p : Ordering) → (o ≡ Equal → p ≡ Equal) → is_eq (ordering_then o p) ≡ is_eq o
eq_then Less p h = refl
eq_then Equal p h = ap is_eq (h refl)
eq_then Greater p h = refl

names_alike : (k l : List ℕ) (n m : Named) → name_at k ≡ Some n → name_at l ≡ Some m → is_eq (by_raw_then_resolved n m) ≡ is_eq (slice_cmp nat_cmp k l)
names_alike k l n m p q =
    let a = raw_is k n p in
    let b = raw_is l m q in
    let same : slice_cmp nat_cmp n.raw m.raw ≡ slice_cmp nat_cmp k l = ap (λ z. slice_cmp nat_cmp z m.raw) a ∙ ap (slice_cmp nat_cmp k) b in
    let tied : slice_cmp nat_cmp n.raw m.raw ≡ Equal → slice_cmp nat_cmp n.resolved m.resolved ≡ Equal = λ h.
    let is : n ≡ m = some-inj (sym p ∙ ap name_at (equal_is k l (sym same ∙ h)) ∙ q) in
    ap (λ (z : Named). slice_cmp nat_cmp n.resolved z.resolved) (sym is) ∙ same_text n.resolved in
    eq_then (slice_cmp nat_cmp n.raw m.raw) (slice_cmp nat_cmp n.resolved m.resolved) tied ∙ ap is_eq same

entry_name : (raw : List ℕ) (d : Data) (e : Named × TargetDoc) → entry_at raw d ≡ Some e → name_at raw ≡ Some e.0
unfolding entry_at
entry_name raw d e h =
    let n = bind_ok (name_at raw) (λ n. target_at d >>= λ t. Some (n, t)) e h in
    let t = bind_ok (target_at d) (λ t. Some (n.0, t)) e n.2 in
    n.1 ∙ ap (λ (z : Named × TargetDoc). Some z.0) (some-inj t.2)

pub entry-is : (raw : List ℕ) (d : Data) (n : Named) (t : TargetDoc) → name_at raw ≡ Some n → target_at d ≡ Some t → entry_at raw d ≡ Some (n, t)
unfolding entry_at
entry-is raw d n t p q = rw (p, q) refl

pub entry-unnamed : (raw : List ℕ) (d : Data) → name_at raw ≡ None → entry_at raw d ≡ None
unfolding entry_at
entry-unnamed raw d h = rw h refl

pub entry-none : (raw : List ℕ) (d : Data) (n : Named) → name_at raw ≡ Some n → target_at d ≡ None → entry_at raw d ≡ None
unfolding entry_at
entry-none raw d n p q = rw (p, q) refl

-- ---- what is listed, and what is there

abbrev Listed : Type 0
Listed = List (Named × TargetDoc)

or_true : (b : Bool) → (b || true) ≡ true
or_true true = refl
or_true false = refl

or_false : (b : Bool) → (b || false) ≡ b
or_false true = refl
or_false false = refl

found_at : (o : Ordering) (b : Bool) (g : Option Data) (e : Data) (t : TargetDoc) (f : Option TargetDoc) → b ≡ is_eq o
    → (is_some g || is_some (cond b (Some t) f)) ≡ (is_some (match_ordering o g (Some e) g) || is_some f)
found_at Less b g e t f h = rw h refl
found_at Equal b g e t f h = rw h (or_true (is_some g))
found_at Greater b g e t f h = rw h refl

found_member : (o : Option (Named × TargetDoc)) (l : List ℕ) (e : Data) (ms : Members) (fs es : Listed) (k : List ℕ) (n : Named) → entry_at l e ≡ o → name_at k ≡ Some n → listing_from fs (member l e ms) ≡ Some es
    → ((more : Listed) → listing_from more ms ≡ Some es → is_some (lookup (is_at (by_raw_then_resolved n)) es) ≡ (is_some (get_member k ms) || is_some (lookup (is_at (by_raw_then_resolved n)) more)))
    → is_some (lookup (is_at (by_raw_then_resolved n)) es) ≡ (is_some (get_member k (member l e ms)) || is_some (lookup (is_at (by_raw_then_resolved n)) fs))
found_member None l e ms fs es k n is p h later = none_some (sym h ∙ listing-refused fs l e ms is)
found_member (Some a) l e ms fs es k n is p h later =
    let more = insert_entry by_raw_then_resolved fs a.0 a.1 in
    later more (sym (listing-more fs l e ms a is) ∙ h) ∙ ap (λ o. is_some (get_member k ms) || is_some o) (lookup-insert names_total fs a.0 a.1 n)
    ∙ found_at (slice_cmp nat_cmp k l) (is_eq (by_raw_then_resolved n a.0)) (get_member k ms) e a.1 (lookup (is_at (by_raw_then_resolved n)) fs) (names_alike k l n a.0 p (entry_name l e a is))

found_from : (ms : Members) (fs es : Listed) (k : List ℕ) (n : Named) → name_at k ≡ Some n → listing_from fs ms ≡ Some es
    → is_some (lookup (is_at (by_raw_then_resolved n)) es) ≡ (is_some (get_member k ms) || is_some (lookup (is_at (by_raw_then_resolved n)) fs))
found_from no_members fs es k n p h = ap (λ l. is_some (lookup (is_at (by_raw_then_resolved n)) l)) (some-inj (sym h ∙ listing-done fs))
found_from (member l e ms) fs es k n p h = found_member (entry_at l e) l e ms fs es k n refl p h (λ more there. found_from ms more es k n p there)

-- a name is listed where a member has it
pub listed-there : (ms : Members) (es : Listed) (k : List ℕ) (n : Named) → name_at k ≡ Some n → listing_from [] ms ≡ Some es
    → is_some (lookup (is_at (by_raw_then_resolved n)) es) ≡ is_some (get_member k ms)
listed-there ms es k n p h = found_from ms [] es k n p h ∙ or_false (is_some (get_member k ms))

some_mapped : {A B : Type 0} (f : A → B) (o : Option A) → is_some (option_map f o) ≡ is_some o
some_mapped f None = refl
some_mapped f (Some x) = refl

-- a map's names are those of its document
pub listed-doc : (test : Named → Bool) (es : List (Named × Target)) → is_some (lookup test (listing_doc es)) ≡ is_some (lookup test es)
listed-doc test es = ap is_some (sym (lookup-listing test es)) ∙ some_mapped target_doc (lookup test es)

-- one member that is no target
refused_at : (o : Ordering) (r : Option (Named × TargetDoc)) (k l : List ℕ) (c e : Data) (ms : Members) (fs : Listed) → slice_cmp nat_cmp k l ≡ o → entry_at l e ≡ r → match_ordering o (get_member k ms) (Some e) (get_member k ms) ≡ Some c → entry_at k c ≡ None
    → ((more : Listed) → get_member k ms ≡ Some c → listing_from more ms ≡ None) → listing_from fs (member l e ms) ≡ None
refused_at o None k l c e ms fs is there h none later = listing-refused fs l e ms there
refused_at Less (Some a) k l c e ms fs is there h none later = listing-more fs l e ms a there ∙ later (insert_entry by_raw_then_resolved fs a.0 a.1) h
refused_at Equal (Some a) k l c e ms fs is there h none later = none_some (sym there ∙ ap (entry_at l) (some-inj h) ∙ ap (λ z. entry_at z c) (sym (equal_is k l is)) ∙ none)
refused_at Greater (Some a) k l c e ms fs is there h none later = listing-more fs l e ms a there ∙ later (insert_entry by_raw_then_resolved fs a.0 a.1) h

pub listing-none : (ms : Members) (fs : Listed) (k : List ℕ) (c : Data) → get_member k ms ≡ Some c → entry_at k c ≡ None → listing_from fs ms ≡ None
listing-none no_members fs k c h none = cc
listing-none (member l e ms) fs k c h none = refused_at (slice_cmp nat_cmp k l) (entry_at l e) k l c e ms fs refl refl h none (λ more there. listing-none ms more k c there none)

-- ---- how far the reading has come

abbrev pub or_else : Option Data → Option Data → Option Data
or_else (Some d) o = Some d
or_else None o = o

or_else_none : (o : Option Data) → or_else o None ≡ o
or_else_none (Some d) = refl
or_else_none None = refl

-- The object ms has what the members that were read have under a name, and else what those have that are left.
pub record Stands (ms : Members) (left : Option Members) (docs : Listed) : Type 0 where
  pub done : Members
  pub base : Members
  pub rises : Rises done
  pub is_base : left ≡ Some base
  pub read : listing_from [] done ≡ Some docs
  pub counts : (q : List ℕ) → get_member q ms ≡ or_else (get_member q done) (get_member q base)

pub stands-first : (ms : Members) (left : Option Members) (docs : Listed) → left ≡ Some ms → docs ≡ [] → Stands ms left docs
stands-first ms left docs h none = record { done = no_members; base = ms; rises = tt; is_base = h; read = listing-done [] ∙ ap Some (sym none); counts = λ q. refl }

pub stands-last : (js : json.Members) (ms : Members) (left : Option Members) (docs : Listed) → of_members js no_members ≡ Some ms → left ≡ Some no_members → Stands ms left docs → listing_from [] ms ≡ Some docs
stands-last js ms left docs h none s =
    let is : s.base ≡ no_members = some-inj (sym s.is_base ∙ none) in
    let same = same-members ms s.done (rises-of js no_members ms h tt) s.rises (λ q. s.counts q ∙ ap (λ b. or_else (get_member q s.done) (get_member q b)) is ∙ or_else_none (get_member q s.done)) in
    ap (listing_from []) same ∙ s.read

-- what a name has after one more
counts_new : (b : Bool) (q k : List ℕ) (d : Data) (done base : Members) (o : Option Data) → bytes_eq q k ≡ b → get_member k done ≡ None → o ≡ or_else (get_member q done) (get_member q (put k d base)) → o ≡ or_else (get_member q (put k d done)) (get_member q base)
counts_new true q k d done base o same none h =
    let is = (bytes_eq-Decides q k).0 same in
    h ∙ ap (λ z. or_else (get_member z done) (get_member z (put k d base))) is ∙ ap (λ x. or_else x (get_member k (put k d base))) none ∙ get_member-put k d base
    ∙ sym (ap (λ z. or_else (get_member z (put k d done)) (get_member z base)) is ∙ ap (λ x. or_else x (get_member k base)) (get_member-put k d done))
counts_new false q k d done base o same none h =
    let apart : q ≡ k → ⊥ = λ is. let clash : true ≡ false = sym ((bytes_eq-Decides q k).1 is) ∙ same in cc in
    h ∙ ap (or_else (get_member q done)) (get_member-put_other q k d base apart) ∙ ap (λ x. or_else x (get_member q base)) (sym (get_member-put_other q k d done apart))

counts_old : (b : Bool) (q k : List ℕ) (d c : Data) (done base : Members) (o : Option Data) → bytes_eq q k ≡ b → get_member k done ≡ Some c → o ≡ or_else (get_member q done) (get_member q (put k d base)) → o ≡ or_else (get_member q done) (get_member q base)
counts_old true q k d c done base o same some h =
    let is = (bytes_eq-Decides q k).0 same in
    let there : get_member q done ≡ Some c = ap (λ z. get_member z done) is ∙ some in
    h ∙ ap (λ x. or_else x (get_member q (put k d base))) there ∙ ap (λ x. or_else x (get_member q base)) (sym there)
counts_old false q k d c done base o same some h =
    let apart : q ≡ k → ⊥ = λ is. let clash : true ≡ false = sym ((bytes_eq-Decides q k).1 is) ∙ same in cc in
    h ∙ ap (or_else (get_member q done)) (get_member-put_other q k d base apart)

none_of : {X : Type 0} (o : Option X) → is_some o ≡ false → o ≡ None
none_of None h = refl
none_of (Some x) h = cc

some_of : {X : Type 0} (o : Option X) → is_some o ≡ true → (x : X) × (o ≡ Some x)
some_of None h = cc
some_of (Some x) h = (x, refl)

some_else : (o : Option Data) (d : Data) → (c : Data) × (or_else o (Some d) ≡ Some c)
some_else (Some c) d = (c, refl)
some_else None d = (d, refl)

module _ {A : Type 0} (ms : Members) (xs ys : List (Bor (List ℕ) × Borrowed A)) (x : Bor (List ℕ) × Borrowed A) (docs : Listed) (last : ys ≡ xs ++ x ∷ []) (s : Stands ms (of_members (json_members ys) no_members) docs) where
  pub here_last : (d : Data) × (b : Members) × (of_json (json_view x.1) ≡ Some d) × (of_members (json_members xs) no_members ≡ Some b) × (put x.0.now d b ≡ s.base)
  here_last = popped xs x no_members s.base (ap (λ l. of_members (json_members l) no_members) (sym last) ∙ s.is_base)

  counted : (q : List ℕ) → get_member q ms ≡ or_else (get_member q s.done) (get_member q (put x.0.now here_last.0 here_last.1))
  counted q = s.counts q ∙ ap (λ b. or_else (get_member q s.done) (get_member q b)) (sym here_last.4)

  -- a member whose name isn't listed is put there
  pub stands-more : (n : Named) (t : TargetDoc) (new : Listed) → name_at x.0.now ≡ Some n → target_at here_last.0 ≡ Some t → is_some (lookup (is_at (by_raw_then_resolved n)) docs) ≡ false → new ≡ insert_entry by_raw_then_resolved docs n t
      → Stands ms (of_members (json_members xs) no_members) new
  stands-more n t new p q free is =
      let k = x.0.now in
      let d = here_last.0 in
      let none = none_of (get_member k s.done) (sym (listed-there s.done docs k n p s.read) ∙ free) in
      let apart = free-from names_total (λ there. true) entry_at n s.done [] docs s.read (none_of (lookup (is_at (by_raw_then_resolved n)) docs) free) in
      let put_in = put-table names_total (λ there. true) entry_at n t k d s.done [] none (entry-is k d n t p q) apart.0 refl in
      record {
        done = put k d s.done;
        base = here_last.1;
        rises = rises-put k d s.done s.rises;
        is_base = here_last.3;
        read = put_in ∙ ap (option_map (λ es. insert_entry by_raw_then_resolved es n t)) s.read ∙ ap Some (sym is);
        counts = λ q. counts_new (bytes_eq q k) q k d s.done here_last.1 (get_member q ms) refl none (counted q);
      }

  -- one whose name is listed is passed over
  pub stands-passed : (n : Named) → name_at x.0.now ≡ Some n → is_some (lookup (is_at (by_raw_then_resolved n)) docs) ≡ true → Stands ms (of_members (json_members xs) no_members) docs
  stands-passed n p there =
      let k = x.0.now in
      let c = some_of (get_member k s.done) (sym (listed-there s.done docs k n p s.read) ∙ there) in
      record {
        done = s.done;
        base = here_last.1;
        rises = s.rises;
        is_base = here_last.3;
        read = s.read;
        counts = λ q. counts_old (bytes_eq q k) q k here_last.0 c.0 s.done here_last.1 (get_member q ms) refl c.1 (counted q);
      }

  -- one that has no name refuses all
  pub refused-unnamed : name_at x.0.now ≡ None → listing_from [] ms ≡ None
  refused-unnamed none =
      let k = x.0.now in
      let c = some_else (get_member k s.done) here_last.0 in
      listing-none ms [] k c.0 (counted k ∙ ap (or_else (get_member k s.done)) (get_member-put k here_last.0 here_last.1) ∙ c.1) (entry-unnamed k c.0 none)

  -- one whose name isn't listed, and that is no target
  pub refused-none : (n : Named) → name_at x.0.now ≡ Some n → target_at here_last.0 ≡ None → is_some (lookup (is_at (by_raw_then_resolved n)) docs) ≡ false → listing_from [] ms ≡ None
  refused-none n p bad free =
      let k = x.0.now in
      let none = none_of (get_member k s.done) (sym (listed-there s.done docs k n p s.read) ∙ free) in
      listing-none ms [] k here_last.0 (counted k ∙ ap (λ o. or_else o (get_member k (put k here_last.0 here_last.1))) none ∙ get_member-put k here_last.0 here_last.1) (entry-none k here_last.0 n p bad)
