-- Members in order.
use Rattle.std.proofs.Common.{◌≡◌, ◌⊎◌, ℕ, true, ◌||◌, List, [], ◌∷◌, Less, Equal, nat_cmp, bytes_eq, refl, sym, ap, ap₂, ◌∙◌, subst, inl, inr}
use Rattle.std.proofs.lemmas.Bool.{cases_Bool}
use Rattle.std.proofs.lemmas.Cmp.{nat_list_cmp_total, tied_itself}
use Rattle.std.proofs.lemmas.List.Elements.{recursion_from_All, All-from_recursion}
use Rattle.std.proofs.lemmas.List.Sorted.{All-permutation, IsPermutation-sym}
use Rattle.std.proofs.lemmas.Slice.Eq.{bytes_eq-Decides}
use Rattle.std.specs.Cmp.Lexicographic.{slice_cmp}
use Rattle.std.specs.List.{AllByRecursion}
use Rattle.std.specs.List.Sorted.{IsPermutation, IsStrictlySortedBy}
use Rattle.std.specs.Map.{keys_of}
use Rattle.serde_json.specs.Data.{Members, no_members, member}
use Rattle.tough_cjson.specs.Canon.{Member, CanonMembers, has_name, nfc_text}
use Rattle.tough_cjson.proofs.Holding.{or-left, or-right}

abbrev pub In : Member → List Member → Type 0
In m [] = ⊥
In m (x ∷ xs) = (m ≡ x) ⊎ In m xs

abbrev pub Rising : List Member → Type 0
Rising es = IsStrictlySortedBy (slice_cmp nat_cmp) (keys_of es)

pub moved : (P : Member → Type 0) (ps es : List Member) → IsPermutation ps es → AllByRecursion P ps → AllByRecursion P es
moved P ps es perm all = recursion_from_All P es (All-permutation P ps es perm (All-from_recursion P ps all))

pub all-of : (P : Member → Type 0) (xs : List Member) → ((m : Member) → In m xs → P m) → AllByRecursion P xs
all-of P [] f = tt
all-of P (x ∷ xs) f = (f x (inl refl), all-of P xs (λ m i. f m (inr i)))

pub in-all : (P : Member → Type 0) (xs : List Member) (m : Member) → AllByRecursion P xs → In m xs → P m
in-all P [] m all i = absurd i
in-all P (x ∷ xs) m all i = elim i [ inl e ↦ subst P (sym e) all.0 | inr j ↦ in-all P xs m all.1 j ]

pub in-moved : (ps es : List Member) (m : Member) → IsPermutation ps es → In m ps → In m es
in-moved ps es m perm i = in-all (λ z. In z es) ps m (moved (λ z. In z es) es ps (IsPermutation-sym ps es perm) (all-of (λ z. In z es) es (λ z j. j))) i

pub in-back : (ps es : List Member) (m : Member) → IsPermutation ps es → In m es → In m ps
in-back ps es m perm i = in-moved es ps m (IsPermutation-sym ps es perm) i

irreflexive : (n : List ℕ) → slice_cmp nat_cmp n n ≡ Less → ⊥
irreflexive n e = let tied : slice_cmp nat_cmp n n ≡ Equal = tied_itself nat_list_cmp_total n in let clash : Less ≡ Equal = sym e ∙ tied in cc

asymmetric : (a b : List ℕ) → slice_cmp nat_cmp a b ≡ Less → slice_cmp nat_cmp b a ≡ Less → ⊥
asymmetric a b e f = irreflexive a (nat_list_cmp_total.trans a b a e f)

below-in : (n : List ℕ) (xs : List Member) (m : Member) → AllByRecursion (λ y. slice_cmp nat_cmp n y ≡ Less) (keys_of xs) → In m xs → slice_cmp nat_cmp n m.0 ≡ Less
below-in n [] m all i = absurd i
below-in n (x ∷ xs) m all i = elim i [ inl e ↦ ap (λ (z : Member). slice_cmp nat_cmp n z.0) e ∙ all.0 | inr j ↦ below-in n xs m all.1 j ]

head-same : (e f : Member) (es fs : List Member) → Rising (e ∷ es) → Rising (f ∷ fs) → In e (f ∷ fs) → In f (e ∷ es) → e ≡ f
unfolding IsStrictlySortedBy
head-same e f es fs re rf i j = elim i [
  | inl p ↦ p
  | inr p ↦ elim j [
    | inl q ↦ sym q
    | inr q ↦ absurd (asymmetric e.0 f.0 (below-in e.0 es f re.0 q) (below-in f.0 fs e rf.0 p))
  ]
]

past-head : (e f m : Member) (es fs : List Member) → Rising (e ∷ es) → e ≡ f → In m es → In m (f ∷ fs) → In m fs
unfolding IsStrictlySortedBy
past-head e f m es fs re same i j = elim j [
  | inl p ↦ absurd (irreflexive e.0 (subst (λ (z : Member). slice_cmp nat_cmp e.0 z.0 ≡ Less) (p ∙ sym same) (below-in e.0 es m re.0 i)))
  | inr q ↦ q
]

tail : (e : Member) (es : List Member) → Rising (e ∷ es) → Rising es
unfolding IsStrictlySortedBy
tail e es r = r.1

-- two lists in order with the same members are the same
pub sorted-same : (es fs : List Member) → Rising es → Rising fs → ((m : Member) → In m es → In m fs) → ((m : Member) → In m fs → In m es) → es ≡ fs
sorted-same [] [] re rf h g = refl
sorted-same [] (f ∷ fs) re rf h g = absurd (g f (inl refl))
sorted-same (e ∷ es) [] re rf h g = absurd (h e (inl refl))
sorted-same (e ∷ es) (f ∷ fs) re rf h g =
    let first = head-same e f es fs re rf (h e (inl refl)) (g f (inl refl)) in
    ap₂ (λ m ms. m ∷ ms) first (sorted-same es fs (tail e es re) (tail f fs rf)
    (λ m i. past-head e f m es fs re first i (h m (inr i)))
    (λ m i. past-head f e m fs es rf (sym first) i (g m (inr i))))

not-below : (n : List ℕ) (s : List ℕ) (x : Member) (xs : List Member) → Rising (x ∷ xs) → n ≡ x.0 → In (n, s) xs → ⊥
unfolding IsStrictlySortedBy
not-below n s x xs r e i = irreflexive x.0 (subst (λ k. slice_cmp nat_cmp x.0 k ≡ Less) e (below-in x.0 xs (n, s) r.0 i))

-- a name stands once
pub one-text : (xs : List Member) (n s t : List ℕ) → Rising xs → In (n, s) xs → In (n, t) xs → s ≡ t
one-text [] n s t r i j = absurd i
one-text (x ∷ xs) n s t r i j = elim i [
  | inl p ↦ elim j [
    | inl q ↦ ap (λ (z : Member). z.1) (p ∙ sym q)
    | inr q ↦ absurd (not-below n t x xs r (ap (λ (z : Member). z.0) p) q)
  ]
  | inr p ↦ elim j [
    | inl q ↦ absurd (not-below n s x xs r (ap (λ (z : Member). z.0) q) p)
    | inr q ↦ one-text xs n s t (tail x xs r) p q
  ]
]

pub in-has_name : (m : Member) (ms : Members) (ps : List Member) → CanonMembers ms ps → In m ps → has_name m.0 ms ≡ true
in-has_name m no_members ps h i = absurd (subst (In m) h i)
in-has_name m (member k d ms) ps h i = elim (subst (In m) h.4 i) [
  | inl p ↦ or-left _ _ ((bytes_eq-Decides m.0 (nfc_text k)).1 (ap (λ (z : Member). z.0) p))
  | inr j ↦ or-right _ _ (in-has_name m ms h.1 h.3 j)
]

pub has_name-in : (n : List ℕ) (ms : Members) (ps : List Member) → CanonMembers ms ps → has_name n ms ≡ true → (s : List ℕ) × In (n, s) ps
has_name-in n no_members ps h has = cc
has_name-in n (member k d ms) ps h has = elim (cases_Bool (bytes_eq n (nfc_text k))) [
  | inl same ↦ (h.0, subst (In (n, h.0)) (sym h.4) (inl (ap (λ l. (l, h.0)) ((bytes_eq-Decides n (nfc_text k)).0 same))))
  | inr other ↦ let r = has_name-in n ms h.1 h.3 (sym (ap (λ b. b || has_name n ms) other) ∙ has) in (r.0, subst (In (n, r.0)) (sym h.4) (inr r.1))
]
