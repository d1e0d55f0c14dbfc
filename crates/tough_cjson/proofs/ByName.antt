-- Members in the order of their names' NFC, as references, and their texts.
use Rattle.std.proofs.Common.{◌≡◌, ◌≤◌, ℕ, Bool, arith, true, false, ◌||◌, cond, is_some, is_eq, Ordering, Less, Equal, Greater, List, [], ◌∷◌, ◌++◌, map, Option, Some, None, String, Global, string_bytes, string_cmp, unwrap_or, bytes_eq, nat_cmp, refl, sym, ap, ap₂, ◌∙◌, subst, inl, inr}
use Rattle.std.proofs.lemmas.Bool.{cases_Bool, false≢true, or_parts}
use Rattle.std.proofs.lemmas.Map.Text.{is_eq-slice_cmp}
use Rattle.std.specs.BTreeMap.{insert_entry, is_at}
use Rattle.std.specs.Ordering.{match_ordering}
use Rattle.serde_json.specs.Written.{has_float, members_have_float}
use Rattle.std.proofs.lemmas.List.Elements.{recursion_from_All, All-from_recursion}
use Rattle.std.proofs.lemmas.List.Sorted.{All-permutation, IsPermutation-sym, IsPermutation-map, IsPermutation-refl, IsPermutation-trans, IsPermutation-to_front, IsPermutation-cons, IsPermutation-append_left, list_any-IsPermutation}
use Rattle.std.specs.Cmp.Lexicographic.{slice_cmp}
use Rattle.std.specs.List.{AllByRecursion, list_any}
use Rattle.std.specs.List.Sorted.{IsPermutation, IsStrictlySortedBy}
use Rattle.std.specs.Map.{keys_of, lookup}
use denote.Ref.{Bor}
use Rattle.serde_json.specs.View.{view, members_view}
use Rattle.serde_json.specs.declared.value.Value.{Value, size-Value}
use denote.Param.Weighed.{most}
use Rattle.serde_json.proofs.Views.{Entry}
use Rattle.tough_cjson.specs.declared.error.CjsonError.{CjsonError}
use Rattle.tough_cjson.specs.declared.error.CjsonError.TheVariants.{Float, SameName, Memory}
use Rattle.tough_cjson.specs.ByName.{named, kept, AreByName}
use Rattle.tough_cjson.specs.Canon.{Canon, CanonMembers, Member, IsInOrder, AreMembersRefused, Holds, nfc_text, has_name, shares_name, members_share_name}
use Rattle.tough_cjson.specs.CanonicalText.{canonical_of}
use Rattle.tough_cjson.proofs.lemmas.Computed.{computed}
use Rattle.tough_cjson.proofs.Ordered.{Rising}

-- a member as a map of references keeps it, and as it is seen
abbrev pub Lent : Type 0
Lent = String Global × Bor Value

abbrev pub Named : Type 0
Named = List ℕ × Value

-- the text of a value that has one
abbrev pub text_of : Value → List ℕ
text_of v = unwrap_or (canonical_of (view v)) []

abbrev pub texts_of : List Named → List Member
texts_of ns = map (λ n. (n.0, text_of n.1)) ns

-- each value has a text
abbrev pub AreWritten : List Named → Type 0
AreWritten ns = AllByRecursion (λ n. Canon (view n.1) (text_of n.1)) ns

text-same : (o : Option (List ℕ)) (t : List ℕ) → o ≡ Some t → unwrap_or o [] ≡ t
text-same None t h = cc
text-same (Some s) t h = cc

pub text_of-Canon : (v : Value) (t : List ℕ) → Canon (view v) t → text_of v ≡ t
text_of-Canon v t h = text-same (canonical_of (view v)) t (computed (view v) t h)

pub AreWritten_more : (ns : List Named) (n : Named) (t : List ℕ) → AreWritten ns → Canon (view n.1) t → AreWritten (ns ++ n ∷ [])
AreWritten_more [] n t all h = (subst (Canon (view n.1)) (sym (text_of-Canon n.1 t h)) h, tt)
AreWritten_more (m ∷ ms) n t all h = (all.0, AreWritten_more ms n t all.1 h)

pub texts_of_more : (ns : List Named) (n : Named) → texts_of (ns ++ n ∷ []) ≡ texts_of ns ++ (n.0, text_of n.1) ∷ []
texts_of_more [] n = refl
texts_of_more (m ∷ ms) n = ap (λ l. (m.0, text_of m.1) ∷ l) (texts_of_more ms n)

pub kept_more : (done : List Lent) (e : Lent) → kept (done ++ e ∷ []) ≡ kept done ++ (string_bytes e.0, e.1.now) ∷ []
kept_more [] e = refl
kept_more (f ∷ fs) e = ap (λ l. (string_bytes f.0, f.1.now) ∷ l) (kept_more fs e)

moved : (P : Named → Type 0) (ps es : List Named) → IsPermutation ps es → AllByRecursion P ps → AllByRecursion P es
moved P ps es perm all = recursion_from_All P es (All-permutation P ps es perm (All-from_recursion P ps all))

-- the texts stand under the names in the order of the object
canon : (es : List Entry) → AreWritten (named es) → CanonMembers (members_view es) (texts_of (named es))
canon [] all = refl
canon (e ∷ es) all = (text_of e.1, texts_of (named es), all.0, canon es all.1, refl)

below : (k : List ℕ) (ls : List Lent) → AllByRecursion (λ y. slice_cmp nat_cmp k (string_bytes y) ≡ Less) (keys_of ls) → AllByRecursion (λ y. slice_cmp nat_cmp k y ≡ Less) (keys_of (texts_of (kept ls)))
below k [] all = tt
below k (l ∷ ls) all = (all.0, below k ls all.1)

rising : (ls : List Lent) → IsStrictlySortedBy string_cmp (keys_of ls) → Rising (texts_of (kept ls))
unfolding IsStrictlySortedBy
rising [] h = tt
rising (l ∷ ls) h = (below (string_bytes l.0) ls h.0, rising ls h.1)

-- what is written in order is the object's text
pub written : (es : List Entry) (ls : List Lent) → AreByName es ls → AreWritten (kept ls) → CanonMembers (members_view es) (texts_of (named es)) × IsInOrder (texts_of (named es)) (texts_of (kept ls))
written es ls h all = (
  canon es (moved (λ n. Canon (view n.1) (text_of n.1)) (kept ls) (named es) (IsPermutation-sym (named es) (kept ls) h.same) all),
  record { same = IsPermutation-map (λ (n : Named). (n.0, text_of n.1)) (named es) (kept ls) h.same; rising = rising ls h.rising },
)

forth : (P : Value → Type 0) (es : List Entry) → AllByRecursion (λ e. P e.1) es → AllByRecursion (λ n. P n.1) (named es)
forth P [] a = tt
forth P (e ∷ es) a = (a.0, forth P es a.1)

back : (P : Value → Type 0) (ls : List Lent) → AllByRecursion (λ n. P n.1) (kept ls) → AllByRecursion (λ l. P l.1.now) ls
back P [] a = tt
back P (l ∷ ls) a = (a.0, back P ls a.1)

middle : (P : Lent → Type 0) (done : List Lent) (l : Lent) (left : List Lent) → AllByRecursion P (done ++ l ∷ left) → P l
middle P [] l left a = a.0
middle P (d ∷ done) l left a = middle P done l left a.1

-- what each value of the object is, each of the sorted is
pub kept_at : (P : Value → Type 0) (es : List Entry) (ls : List Lent) (done : List Lent) (l : Lent) (left : List Lent) → AreByName es ls → ls ≡ done ++ l ∷ left → AllByRecursion (λ e. P e.1) es → P l.1.now
kept_at P es ls done l left h all a =
    middle (λ l. P l.1.now) done l left (subst (AllByRecursion (λ l. P l.1.now)) all (back P ls (moved (λ n. P n.1) (named es) (kept ls) h.same (forth P es a))))

all_below : (es : List Entry) (m : ℕ) → most size-Value (map (λ (e : Entry). e.1) es) ≤ m → AllByRecursion (λ (e : Entry). size-Value e.1 ≤ m) es
all_below [] m h = tt
all_below (e ∷ es) m h = (omega arith, all_below es m (omega arith))

-- no value of the sorted is deeper than the deepest of the object
pub kept_below : (es : List Entry) (ls : List Lent) (done : List Lent) (l : Lent) (left : List Lent) → AreByName es ls → ls ≡ done ++ l ∷ left → size-Value l.1.now ≤ most size-Value (map (λ (e : Entry). e.1) es)
kept_below es ls done l left h all = kept_at (λ v. size-Value v ≤ most size-Value (map (λ (e : Entry). e.1) es)) es ls done l left h all (all_below es _ (omega arith))

no_float : (es : List Entry) → members_have_float (members_view es) ≡ false → AllByRecursion (λ e. has_float (view e.1) ≡ false) es
no_float [] h = tt
no_float (e ∷ es) h = let p = or_parts (has_float (view e.1)) (members_have_float (members_view es)) h in (p.0, no_float es p.1)

no_name : (es : List Entry) → members_share_name (members_view es) ≡ false → AllByRecursion (λ e. shares_name (view e.1) ≡ false) es
no_name [] h = tt
no_name (e ∷ es) h =
    let p = or_parts (has_name (nfc_text (string_bytes e.0)) (members_view es)) (shares_name (view e.1) || members_share_name (members_view es)) h in
    let q = or_parts (shares_name (view e.1)) (members_share_name (members_view es)) p.1 in
    (q.0, no_name es q.1)

-- what one of the sorted holds, the object holds
pub kept_hold : (e : CjsonError) (es : List Entry) (ls : List Lent) (done : List Lent) (l : Lent) (left : List Lent) → AreByName es ls → ls ≡ done ++ l ∷ left → Holds (view l.1.now) e → AreMembersRefused (members_view es) e
kept_hold Float es ls done l left h all has = elim (cases_Bool (members_have_float (members_view es))) [
  | inl is ↦ is
  | inr none ↦ absurd (false≢true (sym (kept_at (λ v. has_float (view v) ≡ false) es ls done l left h all (no_float es none)) ∙ has))
]
kept_hold SameName es ls done l left h all has = elim (cases_Bool (members_share_name (members_view es))) [
  | inl is ↦ is
  | inr none ↦ absurd (false≢true (sym (kept_at (λ v. shares_name (view v) ≡ false) es ls done l left h all (no_name es none)) ∙ has))
]
kept_hold Memory es ls done l left h all has = tt

-- ---- a map of references, as it grows

inserted_at : (o : Ordering) (k : String Global) (v : Bor Value) (e : Lent) (es : List Lent) (r : Option (Bor Value)) → cond (is_eq o) (Some e.1) r ≡ None
    → (r ≡ None → IsPermutation (es ++ (k, v) ∷ []) (insert_entry string_cmp es k v))
    → IsPermutation (e ∷ (es ++ (k, v) ∷ [])) (match_ordering o ((k, v) ∷ e ∷ es) ((e.0, v) ∷ es) (e ∷ insert_entry string_cmp es k v))
inserted_at Less k v e es r h later = IsPermutation-to_front (e ∷ es) (k, v)
inserted_at Equal k v e es r h later = cc
inserted_at Greater k v e es r h later = IsPermutation-cons e _ _ (later h)

-- a new key only adds its entry
inserted : (es : List Lent) (k : String Global) (v : Bor Value) → lookup (is_at (string_cmp k)) es ≡ None → IsPermutation (es ++ (k, v) ∷ []) (insert_entry string_cmp es k v)
inserted [] k v h = IsPermutation-refl _
inserted (e ∷ es) k v h = inserted_at (string_cmp k e.0) k v e es _ h (inserted es k v)

some_or : {A : Type 0} (b : Bool) (x : A) (r : Option A) → is_some (cond b (Some x) r) ≡ (b || is_some r)
some_or true x r = refl
some_or false x r = refl

-- whether the map has the key, by the list of names
is_some-lookup : (k : String Global) (es : List Lent) → is_some (lookup (is_at (string_cmp k)) es) ≡ list_any (λ m. bytes_eq (string_bytes k) m.0) (kept es)
is_some-lookup k [] = refl
is_some-lookup k (e ∷ es) = some_or (is_eq (string_cmp k e.0)) e.1 _ ∙ ap₂ (λ b c. b || c) (is_eq-slice_cmp (string_bytes k) (string_bytes e.0)) (is_some-lookup k es)

list_any-named : (n : List ℕ) (es : List Entry) → list_any (λ m. bytes_eq n m.0) (named es) ≡ has_name n (members_view es)
list_any-named n [] = refl
list_any-named n (e ∷ es) = ap (λ b. bytes_eq n (nfc_text (string_bytes e.0)) || b) (list_any-named n es)

-- a map that has the name was given a member of that name
pub has_name-from_lookup : (k : String Global) (es : List Lent) (n : List ℕ) (ms : List Entry) (r : Option (Bor Value)) → r ≡ lookup (is_at (string_cmp k)) es → is_some r ≡ true → string_bytes k ≡ n → IsPermutation (named ms) (kept es) → has_name n (members_view ms) ≡ true
has_name-from_lookup k es n ms r found some is perm =
    sym (list_any-named n ms) ∙ list_any-IsPermutation (λ m. bytes_eq n m.0) (named ms) (kept es) perm ∙ ap (λ b. list_any (λ m. bytes_eq b m.0) (kept es)) (sym is)
    ∙ sym (is_some-lookup k es) ∙ sym (ap is_some found) ∙ some

named_more : (done : List Entry) (e : Entry) → named (done ++ e ∷ []) ≡ named done ++ (nfc_text (string_bytes e.0), e.1) ∷ []
named_more [] e = refl
named_more (f ∷ fs) e = ap (λ l. (nfc_text (string_bytes f.0), f.1) ∷ l) (named_more fs e)

-- one more member
pub IsPermutation_more : (done : List Entry) (e : Entry) (es fs : List Lent) (k : String Global) (v : Bor Value) → v.now ≡ e.1 → IsPermutation (named done) (kept es) → string_bytes k ≡ nfc_text (string_bytes e.0) → lookup (is_at (string_cmp k)) es ≡ None → fs ≡ insert_entry string_cmp es k v → IsPermutation (named (done ++ e ∷ [])) (kept fs)
IsPermutation_more done e es fs k v same perm is none grown =
    let m : Named = (string_bytes k, v.now) in
    let front : named (done ++ e ∷ []) ≡ named done ++ m ∷ [] = named_more done e ∙ ap₂ (λ n w. named done ++ (n, w) ∷ []) (sym is) (sym same) in
    let step : IsPermutation (named done ++ m ∷ []) (kept es ++ m ∷ []) = IsPermutation-append_left (m ∷ []) (named done) (kept es) perm in
    let added : IsPermutation (kept (es ++ (k, v) ∷ [])) (kept fs) = IsPermutation-map (λ (l : Lent). (string_bytes l.0, l.1.now)) _ _ (subst (λ l. IsPermutation (es ++ (k, v) ∷ []) l) (sym grown) (inserted es k v none)) in
    subst (λ l. IsPermutation l (kept fs)) (sym front) (IsPermutation-trans _ _ _ step (subst (λ l. IsPermutation l (kept fs)) (kept_more es (k, v)) added))

pub none_from : {A : Type 0} (r : Option A) → is_some r ≡ false → r ≡ None
none_from None h = refl
none_from (Some x) h = cc
