-- Trees and the values that they stand for.
use Rattle.std.proofs.Common.{◌≡◌, ℕ, Bool, true, false, bytes_eq, cond, is_some, is_eq, IsUtf8, true≢false, Ordering, Less, Equal, Greater, nat_cmp, ◌+◌, ◌<◌, length, get_or, drop, List, [], ◌∷◌, ◌++◌, Option, Some, None, option_map, option_and_then, Bor, refl, sym, ap, ◌∙◌}
use Rattle.std.proofs.lemmas.List.{at_drop_more}
use Rattle.std.proofs.lemmas.Cmp.{nat_list_cmp_total, tied_itself}
use Rattle.std.proofs.lemmas.Slice.Eq.{bytes_eq-Decides}
use Rattle.std.proofs.lemmas.Map.Text.{is_eq-slice_cmp}
use Rattle.std.specs.BTreeMap.{insert_entry}
use Rattle.std.specs.Cmp.Lexicographic.{slice_cmp}
use Rattle.std.specs.Ordering.{match_ordering, ordering_reverse}
use Rattle.json.specs.Json as json
use Rattle.json.specs.Find.{later_or, get_member as last_member}
use Rattle.serde_json.specs.Find.{get_member}
use Rattle.serde_json.proofs.Views.{get_member-put, get_member-put_other}
use Rattle.tough_json.specs.Borrowed.{listed, RefusesDocument, RefusesMember}
use Rattle.tough_json.specs.Pieces.{IsBelow}
use Rattle.tough_json.specs.Reading.{◌>>=◌, without}
use Rattle.tough_json.specs.Results.{json_of, RefusesJson, Refuses, IsRefusal}
use Rattle.tough_json.specs.declared.error.ReadError.{ReadError}
use Rattle.tough_json.specs.declared.error.ReadError.TheVariants as errors
use Rattle.tough_json.proofs.lemmas.Json.{json_of-some, json_of-none}
use Rattle.tough_json.proofs.lemmas.Write.{bind_ok, some-inj}
use Rattle.json.specs.declared.value.Value.{Value as Borrowed}
use Rattle.json.specs.Value.{value_view as json_view, items_view as json_items, members_view as json_members}
use Rattle.serde_json.specs.Read.{of_json, of_items, of_members, read}
use Rattle.serde_json.specs.Data.{Data, Items, no_items, item, Members, no_members, member, put}
use Rattle.serde_json.specs.View.{view, items_view}
use Rattle.serde_json.specs.declared.value.Value.{Value}

-- ---- a list that grows at its end

abbrev pub items_before : List Value → Items → Items
items_before [] rest = rest
items_before (v ∷ vs) rest = item (view v) (items_before vs rest)

pub items_before-no_items : (vs : List Value) → items_before vs no_items ≡ items_view vs
items_before-no_items [] = refl
items_before-no_items (v ∷ vs) = ap (item (view v)) (items_before-no_items vs)

items_push : (vs : List Value) (v : Value) (rest : Items) → items_before vs (item (view v) rest) ≡ items_before (vs ++ v ∷ []) rest
items_push [] v rest = refl
items_push (w ∷ vs) v rest = ap (item (view w)) (items_push vs v rest)

pub one_more_item : (vs : List Value) (v : Value) (o : Option Items) → option_map (items_before vs) (option_map (item (view v)) o) ≡ option_map (items_before (vs ++ v ∷ [])) o
one_more_item vs v None = refl
one_more_item vs v (Some p) = ap Some (items_push vs v p)

-- ---- what is left of a list, a turn on

pub item_turn : {A : Type 0} → (xs : List (Borrowed A)) (i : ℕ) (x : Borrowed A) (d : Data) → i < length xs → x ≡ get_or xs i x → of_json (json_view x) ≡ Some d
    → of_items (json_items (drop i xs)) ≡ option_map (item d) (of_items (json_items (drop (i + 1) xs)))
item_turn xs i x d h is e = at_drop_more (λ ys. of_items (json_items ys)) xs i x h ∙ rw (← is, e)

pub member_turn : {A : Type 0} → (xs : List (Bor (List ℕ) × Borrowed A)) (i : ℕ) (x : Bor (List ℕ) × Borrowed A) (d : Data) (found : Members) → i < length xs → x ≡ get_or xs i x → of_json (json_view x.1) ≡ Some d
    → of_members (json_members (drop i xs)) found ≡ of_members (json_members (drop (i + 1) xs)) (put x.0.now d found)
member_turn xs i x d found h is e = at_drop_more (λ ys. of_members (json_members ys) found) xs i x h ∙ rw (← is, e)

-- ---- the whole text

pub refused-bytes : (e : ReadError) (text bytes : List ℕ) → text ≡ bytes → RefusesDocument e text → RefusesJson e bytes
refused-bytes (errors.Json place) text bytes same r = json_of-none bytes (λ u. ap read (sym same) ∙ r)
refused-bytes (errors.Shape s) text bytes same r = r
refused-bytes errors.Memory text bytes same r = tt

some_of : {X : Type 0} → (o : Option X) → is_some o ≡ true → (x : X) × (o ≡ Some x)
some_of None e = cc
some_of (Some x) e = (x, refl)

pub is-value : (bytes text : List ℕ) (o : Option Data) → IsUtf8 bytes → text ≡ bytes → read text ≡ o → is_some o ≡ true → (d : Data) × (json_of bytes ≡ Some d) × (o ≡ Some d)
is-value bytes text o u same r e =
    let d = some_of o e in
    (d.0, json_of-some bytes d.0 u (ap read (sym same) ∙ r ∙ d.1), d.1)

none_of : {X : Type 0} → (o : Option X) → is_some o ≡ false → o ≡ None
none_of None e = refl
none_of (Some x) e = cc

pub is-no_value : (bytes text : List ℕ) (o : Option Data) → text ≡ bytes → read text ≡ o → is_some o ≡ false → json_of bytes ≡ None
is-no_value bytes text o same r e = json_of-none bytes (λ u. ap read (sym same) ∙ r ∙ none_of o e)

-- ---- the last member of a name

abbrev pub later : Option json.Json → Option Data → Option Data
later (Some j) o = of_json j
later None o = o

pub bound : {A B : Type 0} (f : A → Option B) (o : Option A) (b : B) → option_and_then f o ≡ Some b → (a : A) × (o ≡ Some a) × (f a ≡ Some b)
bound f (Some a) b h = (a, refl, h)
bound f None b h = cc

later_here : (b : Bool) (k l : List ℕ) (j : json.Json) (d : Data) (found : Members) → bytes_eq l k ≡ b → of_json j ≡ Some d → get_member k (put l d found) ≡ later (cond b (Some j) None) (get_member k found)
later_here true k l j d found same e = rw (← (bytes_eq-Decides l k).0 same) (get_member-put l d found ∙ sym e)
later_here false k l j d found same e = get_member-put_other k l d found (λ h. true≢false (sym ((bytes_eq-Decides l k).1 (sym h)) ∙ same))

later_or_earlier : (o here : Option json.Json) (a b : Option Data) → a ≡ later here b → later o a ≡ later (later_or o here) b
later_or_earlier None here a b h = h
later_or_earlier (Some j) here a b h = refl

-- what the object has under a name is the last member of that name
pub later-member : (js : json.Members) (found ms : Members) (k : List ℕ) → of_members js found ≡ Some ms → get_member k ms ≡ later (last_member k js) (get_member k found)
later-member json.no_members found ms k h = ap (get_member k) (sym (some-inj h))
later-member (json.member l j js) found ms k h =
    let d = bound (λ x. of_members js (put l x found)) (of_json j) ms h in
    later-member js (put l d.0 found) ms k d.2 ∙ later_or_earlier (last_member k js) (cond (bytes_eq l k) (Some j) None) (get_member k (put l d.0 found)) (get_member k found) (later_here (bytes_eq l k) k l j d.0 found refl d.1)

later_or_cond : (b : Bool) (j : json.Json) (o e : Option json.Json) → later_or (cond b (Some j) o) e ≡ cond b (Some j) (later_or o e)
later_or_cond true j o e = refl
later_or_cond false j o e = refl

later_or_none : (o : Option json.Json) → later_or None o ≡ o
later_or_none o = refl

pub last-pushed : {A : Type 0} → (xs : List (Bor (List ℕ) × Borrowed A)) (x : Bor (List ℕ) × Borrowed A) (name : List ℕ)
    → last_member name (json_members (xs ++ x ∷ [])) ≡ cond (bytes_eq x.0.now name) (Some (json_view x.1)) (last_member name (json_members xs))
last-pushed [] x name = refl
last-pushed (y ∷ xs) x name =
    ap (λ o. later_or o (cond (bytes_eq y.0.now name) (Some (json_view y.1)) None)) (last-pushed xs x name)
    ∙ later_or_cond (bytes_eq x.0.now name) (json_view x.1) (last_member name (json_members xs)) (cond (bytes_eq y.0.now name) (Some (json_view y.1)) None)

pub member-left : {A : Type 0} → (xs : List (Bor (List ℕ) × Borrowed A)) (i : ℕ) (x : Bor (List ℕ) × Borrowed A) (found ms : Members) → i < length xs → x ≡ get_or xs i x → of_members (json_members (drop i xs)) found ≡ Some ms
    → (d : Data) × (of_json (json_view x.1) ≡ Some d) × (of_members (json_members (drop (i + 1) xs)) (put x.0.now d found) ≡ Some ms)
member-left xs i x found ms h is e =
    let at : of_members (json_members (drop i xs)) found ≡ of_members (json_members (x ∷ drop (i + 1) xs)) found = at_drop_more (λ ys. of_members (json_members ys) found) xs i x h ∙ rw (← is) refl in
    bound (λ d. of_members (json_members (drop (i + 1) xs)) (put x.0.now d found)) (of_json (json_view x.1)) ms (sym at ∙ e)

-- ---- members in order

abbrev pub Rises : Members → Type 0
Rises no_members = Unit {0}
Rises (member k d ms) = IsBelow k ms × Rises ms

below_below : (a b : List ℕ) (ms : Members) → slice_cmp nat_cmp a b ≡ Less → IsBelow b ms → IsBelow a ms
below_below a b no_members h below = tt
below_below a b (member k d ms) h below = (nat_list_cmp_total.trans a b k h below.0, below_below a b ms h below.1)

below_put_at : (o : Ordering) (a k l : List ℕ) (d e : Data) (ms : Members) → slice_cmp nat_cmp a k ≡ Less → IsBelow a (member l e ms) → IsBelow a (put k d ms)
    → IsBelow a (match_ordering o (member k d (member l e ms)) (member l d ms) (member l e (put k d ms)))
below_put_at Less a k l d e ms h below later = (h, below)
below_put_at Equal a k l d e ms h below later = below
below_put_at Greater a k l d e ms h below later = (below.0, later)

below_put : (a k : List ℕ) (d : Data) (ms : Members) → slice_cmp nat_cmp a k ≡ Less → IsBelow a ms → IsBelow a (put k d ms)
below_put a k d no_members h below = (h, tt)
below_put a k d (member l e ms) h below = below_put_at (slice_cmp nat_cmp k l) a k l d e ms h below (below_put a k d ms h below.1)

turned : (a b : List ℕ) → slice_cmp nat_cmp a b ≡ Greater → slice_cmp nat_cmp b a ≡ Less
turned a b h = nat_list_cmp_total.antisymm b a ∙ ap ordering_reverse h

rises_put_at : (o : Ordering) (k l : List ℕ) (d e : Data) (ms : Members) → slice_cmp nat_cmp k l ≡ o → Rises (member l e ms) → Rises (put k d ms)
    → Rises (match_ordering o (member k d (member l e ms)) (member l d ms) (member l e (put k d ms)))
rises_put_at Less k l d e ms h rise later = ((h, below_below k l ms h rise.0), rise)
rises_put_at Equal k l d e ms h rise later = rise
rises_put_at Greater k l d e ms h rise later = (below_put l k d ms (turned k l h) rise.0, later)

pub rises-put : (k : List ℕ) (d : Data) (ms : Members) → Rises ms → Rises (put k d ms)
rises-put k d no_members rise = (tt, tt)
rises-put k d (member l e ms) rise = rises_put_at (slice_cmp nat_cmp k l) k l d e ms refl rise (rises-put k d ms rise.1)

-- one that is below the others goes first
put_first : (k : List ℕ) (d : Data) (ms : Members) → IsBelow k ms → put k d ms ≡ member k d ms
put_first k d no_members below = refl
put_first k d (member l e ms) below = rw (below.0) refl

without_here : (k : List ℕ) (d : Data) (ms : Members) → without k (member k d ms) ≡ ms
without_here k d ms = rw (tied_itself nat_list_cmp_total k) refl

equal_is : (k l : List ℕ) → slice_cmp nat_cmp k l ≡ Equal → k ≡ l
equal_is k l h = (bytes_eq-Decides k l).0 (sym (is_eq-slice_cmp k l) ∙ ap is_eq h)

without_other_at : (o : Ordering) (k l : List ℕ) (d : Data) (ms : Members) → slice_cmp nat_cmp k l ≡ o → (k ≡ l → ⊥) → match_ordering o (member l d (without k ms)) ms (member l d (without k ms)) ≡ member l d (without k ms)
without_other_at Less k l d ms h other = refl
without_other_at Equal k l d ms h other = absurd (other (equal_is k l h))
without_other_at Greater k l d ms h other = refl

without_other : (k l : List ℕ) (d : Data) (ms : Members) → (k ≡ l → ⊥) → without k (member l d ms) ≡ member l d (without k ms)
without_other k l d ms other = without_other_at (slice_cmp nat_cmp k l) k l d ms refl other

without_below : (k : List ℕ) (ms : Members) → IsBelow k ms → without k ms ≡ ms
without_below k no_members below = refl
without_below k (member l e ms) below = rw (below.0) (ap (member l e) (without_below k ms below.1))

below_without_at : (o : Ordering) (a k l : List ℕ) (e : Data) (ms : Members) → IsBelow a (member l e ms) → IsBelow a (without k ms) → IsBelow a (match_ordering o (member l e (without k ms)) ms (member l e (without k ms)))
below_without_at Less a k l e ms below later = (below.0, later)
below_without_at Equal a k l e ms below later = below.1
below_without_at Greater a k l e ms below later = (below.0, later)

below_without : (a k : List ℕ) (ms : Members) → IsBelow a ms → IsBelow a (without k ms)
below_without a k no_members below = tt
below_without a k (member l e ms) below = below_without_at (slice_cmp nat_cmp k l) a k l e ms below (below_without a k ms below.1)

without_put_again_at : (o : Ordering) (k l : List ℕ) (d e : Data) (ms : Members) → slice_cmp nat_cmp k l ≡ o → Rises (member l e ms) → without k (put k d ms) ≡ without k ms
    → without k (match_ordering o (member k d (member l e ms)) (member l d ms) (member l e (put k d ms))) ≡ match_ordering o (member l e (without k ms)) ms (member l e (without k ms))
without_put_again_at Less k l d e ms h rise later = without_here k d (member l e ms) ∙ ap (member l e) (sym (without_below k ms (below_below k l ms h rise.0)))
without_put_again_at Equal k l d e ms h rise later = rw h refl
without_put_again_at Greater k l d e ms h rise later = rw h (ap (member l e) later)

-- what is put at a name goes with it
pub without-put_again : (k : List ℕ) (d : Data) (ms : Members) → Rises ms → without k (put k d ms) ≡ without k ms
without-put_again k d no_members rise = without_here k d no_members
without-put_again k d (member l e ms) rise = without_put_again_at (slice_cmp nat_cmp k l) k l d e ms refl rise (without-put_again k d ms rise.1)

put_behind_at : (o : Ordering) (k l m : List ℕ) (d e : Data) (ms : Members) → slice_cmp nat_cmp l m ≡ Greater → slice_cmp nat_cmp k m ≡ o → without k (put l d ms) ≡ put l d (without k ms)
    → match_ordering o (member m e (without k (put l d ms))) (put l d ms) (member m e (without k (put l d ms))) ≡ put l d (match_ordering o (member m e (without k ms)) ms (member m e (without k ms)))
put_behind_at Less k l m d e ms h is later = rw h (ap (member m e) later)
put_behind_at Equal k l m d e ms h is later = refl
put_behind_at Greater k l m d e ms h is later = rw h (ap (member m e) later)

without_put_other_at : (o : Ordering) (k l m : List ℕ) (d e : Data) (ms : Members) → slice_cmp nat_cmp l m ≡ o → (k ≡ l → ⊥) → Rises (member m e ms) → without k (put l d ms) ≡ put l d (without k ms)
    → without k (match_ordering o (member l d (member m e ms)) (member m d ms) (member m e (put l d ms))) ≡ put l d (without k (member m e ms))
without_put_other_at Less k l m d e ms h other rise later =
    without_other k l d (member m e ms) other ∙ sym (put_first l d (without k (member m e ms)) (below_without l k (member m e ms) (h, below_below l m ms h rise.0)))
without_put_other_at Equal k l m d e ms h other rise later =
    let apart = λ (is : k ≡ m). other (is ∙ sym (equal_is l m h)) in
    without_other k m d ms apart ∙ rw (without_other k m e ms apart, h) refl
without_put_other_at Greater k l m d e ms h other rise later = put_behind_at (slice_cmp nat_cmp k m) k l m d e ms h refl later

-- what is put at another name stays
pub without-put_other : (k l : List ℕ) (d : Data) (ms : Members) → (k ≡ l → ⊥) → Rises ms → without k (put l d ms) ≡ put l d (without k ms)
without-put_other k l d no_members other rise = without_other k l d no_members other
without-put_other k l d (member m e ms) other rise = without_put_other_at (slice_cmp nat_cmp l m) k l m d e ms refl other rise (without-put_other k l d ms other rise.1)

-- ---- members in a map

abbrev pub Entries : Type 0 → Type 0
Entries A = List (Bor (List ℕ) × Borrowed A)

abbrev pub by_text : Bor (List ℕ) → Bor (List ℕ) → Ordering
by_text a b = slice_cmp nat_cmp a.now b.now

pub listed-none : {A : Type 0} → (es : Entries A) → es ≡ [] → listed es ≡ Some no_members
unfolding listed
listed-none es h = rw h refl

listed_put_at : {A : Type 0} → (o : Ordering) (k : Bor (List ℕ)) (v : Borrowed A) (e : Bor (List ℕ) × Borrowed A) (es new : Entries A) (d x : Data) (rest more : Members) → of_json (json_view v) ≡ Some d → of_json (json_view e.1) ≡ Some x → listed es ≡ Some rest → listed new ≡ Some more
    → listed (match_ordering o ((k, v) ∷ e ∷ es) ((e.0, v) ∷ es) (e ∷ new)) ≡ Some (match_ordering o (member k.now d (member e.0.now x rest)) (member e.0.now d rest) (member e.0.now x more))
unfolding listed
listed_put_at Less k v e es new d x rest more hv he hes hnew = rw (hv, he, hes) refl
listed_put_at Equal k v e es new d x rest more hv he hes hnew = rw (hv, hes) refl
listed_put_at Greater k v e es new d x rest more hv he hes hnew = rw (he, hnew) refl

pub listed-put : {A : Type 0} → (es : Entries A) (k : Bor (List ℕ)) (v : Borrowed A) (d : Data) (ms : Members) → listed es ≡ Some ms → of_json (json_view v) ≡ Some d → listed (insert_entry by_text es k v) ≡ Some (put k.now d ms)
unfolding listed
listed-put [] k v d ms h hv = rw (← some-inj h, hv) refl
listed-put (e ∷ es) k v d ms h hv =
    let x = bind_ok (of_json (json_view e.1)) (λ x. listed es >>= λ rest. Some (member e.0.now x rest)) ms h in
    let rest = bind_ok (listed es) (λ rest. Some (member e.0.now x.0 rest)) ms x.2 in
    listed_put_at (by_text k e.0) k v e es (insert_entry by_text es k v) d x.0 rest.0 (put k.now d rest.0) hv x.1 rest.1 (listed-put es k v d rest.0 rest.1 hv)
    ∙ ap (λ m. Some (put k.now d m)) (some-inj rest.2)

-- ---- a member and the others

pub has-last : (js : json.Members) (ms : Members) (k : List ℕ) (j : json.Json) → of_members js no_members ≡ Some ms → last_member k js ≡ Some j → get_member k ms ≡ of_json j
has-last js ms k j h e = later-member js no_members ms k h ∙ ap (λ o. later o None) e

pub has-none : (js : json.Members) (ms : Members) (k : List ℕ) → of_members js no_members ≡ Some ms → last_member k js ≡ None → get_member k ms ≡ None
has-none js ms k h e = later-member js no_members ms k h ∙ ap (λ o. later o None) e

-- each member of an object is a value
value_later_at : (o : Option json.Json) (b : Bool) (i j : json.Json) (d : Data) → of_json i ≡ Some d → later_or o (cond b (Some i) None) ≡ Some j → ((x : json.Json) → o ≡ Some x → (e : Data) × (of_json x ≡ Some e)) → (e : Data) × (of_json j ≡ Some e)
value_later_at None true i j d hd e rest = (d, ap of_json (sym (some-inj e)) ∙ hd)
value_later_at None false i j d hd e rest = cc
value_later_at (Some x) b i j d hd e rest = rest j e

pub value-later : (js : json.Members) (found ms : Members) (k : List ℕ) (j : json.Json) → of_members js found ≡ Some ms → last_member k js ≡ Some j → (d : Data) × (of_json j ≡ Some d)
value-later json.no_members found ms k j h e = cc
value-later (json.member l i js) found ms k j h e =
    let d = bound (λ x. of_members js (put l x found)) (of_json i) ms h in
    value_later_at (last_member k js) (bytes_eq l k) i j d.0 d.1 e (λ x is. value-later js (put l d.0 found) ms k x d.2 is)

pub refused-member : (e : ReadError) (name : List ℕ) (ms : Members) → IsRefusal e → get_member name ms ≡ None → RefusesMember name ms e
refused-member (errors.Json place) name ms is none = is
refused-member (errors.Shape s) name ms is none = none
refused-member errors.Memory name ms is none = tt

pub refused-others : (e : ReadError) (name : List ℕ) (ms left : Members) → Refuses e (Some left) → RefusesMember name ms e
refused-others (errors.Json place) name ms left is = is
refused-others (errors.Shape s) name ms left is = cc
refused-others errors.Memory name ms left is = tt

-- ---- the members of a map, one after another

pub listed-first : {A : Type 0} → (k : Bor (List ℕ)) (v : Borrowed A) (es : Entries A) (ms : Members) → listed ((k, v) ∷ es) ≡ Some ms
    → (d : Data) × (rest : Members) × (of_json (json_view v) ≡ Some d) × (listed es ≡ Some rest) × (member k.now d rest ≡ ms)
unfolding listed
listed-first k v es ms h =
    let x = bind_ok (of_json (json_view v)) (λ x. listed es >>= λ rest. Some (member k.now x rest)) ms h in
    let rest = bind_ok (listed es) (λ rest. Some (member k.now x.0 rest)) ms x.2 in
    (x.0, rest.0, x.1, rest.1, some-inj rest.2)

pub listed-end : {A : Type 0} → (es : Entries A) (ms : Members) → es ≡ [] → listed es ≡ Some ms → no_members ≡ ms
listed-end es ms none h = some-inj (sym (listed-none es none) ∙ h)
