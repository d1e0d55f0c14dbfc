-- Members put in their order.
use Rattle.std.proofs.Common.{◌≡◌, ℕ, false, ◌||◌, List, [], ◌∷◌, Ordering, Less, Equal, Greater, nat_cmp, is_eq, bytes_eq, Option, Some, None, option_map, option_and_then, refl, sym, ap, ◌∙◌, subst}
use Rattle.std.proofs.lemmas.Bool.{or_parts, false≢true}
use Rattle.std.proofs.lemmas.Cmp.{nat_list_cmp_total}
use Rattle.std.proofs.lemmas.List.Sorted.{IsPermutation-refl, IsPermutation-cons, IsPermutation-trans, IsPermutation-middle}
use Rattle.std.proofs.lemmas.Map.Text.{is_eq-slice_cmp}
use Rattle.std.specs.Cmp.Lexicographic.{slice_cmp}
use Rattle.std.specs.List.{AllByRecursion}
use Rattle.std.specs.List.Sorted.{IsPermutation, IsStrictlySortedBy}
use Rattle.std.specs.Map.{keys_of}
use Rattle.std.specs.Ordering.{match_ordering, ordering_reverse}
use Rattle.serde_json.specs.Data.{Members, no_members, member}
use Rattle.tough_cjson.specs.Canon.{CanonMembers, Member, IsInOrder, nfc_text, has_name, shares_name, members_share_name}
use Rattle.tough_cjson.specs.CanonicalText.{put_in, in_order}
use Rattle.tough_cjson.proofs.Ordered.{Rising, moved}

-- the name differs from the member's
abbrev pub Apart : List ℕ → Member → Type 0
Apart n m = is_eq (slice_cmp nat_cmp n m.0) ≡ false

abbrev pub Below : List ℕ → List Member → Type 0
Below n xs = AllByRecursion (λ y. slice_cmp nat_cmp n y ≡ Less) (keys_of xs)

-- m in its place
abbrev pub placed : Member → List Member → List Member
placed m [] = m ∷ []
placed m (x ∷ xs) = match_ordering (slice_cmp nat_cmp m.0 x.0) (m ∷ x ∷ xs) (m ∷ x ∷ xs) (x ∷ placed m xs)

permuted_at : (o : Ordering) (m x : Member) (xs ys : List Member) → IsPermutation (m ∷ xs) ys → IsPermutation (m ∷ x ∷ xs) (match_ordering o (m ∷ x ∷ xs) (m ∷ x ∷ xs) (x ∷ ys))
permuted_at Less m x xs ys h = IsPermutation-refl _
permuted_at Equal m x xs ys h = IsPermutation-refl _
permuted_at Greater m x xs ys h = IsPermutation-trans _ _ _ (IsPermutation-middle (m ∷ []) x xs) (IsPermutation-cons x (m ∷ xs) ys h)

permuted : (m : Member) (xs : List Member) → IsPermutation (m ∷ xs) (placed m xs)
permuted m [] = IsPermutation-refl _
permuted m (x ∷ xs) = permuted_at (slice_cmp nat_cmp m.0 x.0) m x xs (placed m xs) (permuted m xs)

below_at : (o : Ordering) (n : List ℕ) (m x : Member) (xs ys : List Member) → slice_cmp nat_cmp n m.0 ≡ Less → Below n (x ∷ xs) → Below n ys → Below n (match_ordering o (m ∷ x ∷ xs) (m ∷ x ∷ xs) (x ∷ ys))
below_at Less n m x xs ys h all rest = (h, all)
below_at Equal n m x xs ys h all rest = (h, all)
below_at Greater n m x xs ys h all rest = (all.0, rest)

below-placed : (n : List ℕ) (m : Member) (xs : List Member) → slice_cmp nat_cmp n m.0 ≡ Less → Below n xs → Below n (placed m xs)
below-placed n m [] h all = (h, tt)
below-placed n m (x ∷ xs) h all = below_at (slice_cmp nat_cmp m.0 x.0) n m x xs (placed m xs) h all (below-placed n m xs h all.1)

below-through : (n k : List ℕ) (xs : List Member) → slice_cmp nat_cmp n k ≡ Less → Below k xs → Below n xs
below-through n k [] h all = tt
below-through n k (x ∷ xs) h all = (nat_list_cmp_total.trans n k x.0 h all.0, below-through n k xs h all.1)

rising_at : (o : Ordering) (m x : Member) (xs : List Member) → slice_cmp nat_cmp m.0 x.0 ≡ o → is_eq o ≡ false → Rising (x ∷ xs) → Rising (placed m xs) → Rising (match_ordering o (m ∷ x ∷ xs) (m ∷ x ∷ xs) (x ∷ placed m xs))
unfolding IsStrictlySortedBy
rising_at Less m x xs is apart r rest = ((is, below-through m.0 x.0 xs is r.0), r)
rising_at Equal m x xs is apart r rest = absurd (false≢true (sym apart))
rising_at Greater m x xs is apart r rest =
    (below-placed x.0 m xs (nat_list_cmp_total.antisymm x.0 m.0 ∙ ap ordering_reverse is) r.0, rest)

tail : (x : Member) (xs : List Member) → Rising (x ∷ xs) → Rising xs
unfolding IsStrictlySortedBy
tail x xs r = r.1

rising-placed : (m : Member) (xs : List Member) → Rising xs → AllByRecursion (Apart m.0) xs → Rising (placed m xs)
unfolding IsStrictlySortedBy
rising-placed m [] r apart = (tt, tt)
rising-placed m (x ∷ xs) r apart = rising_at _ m x xs refl apart.0 r (rising-placed m xs (tail x xs r) apart.1)

abbrev pub AreApart : List Member → Type 0
AreApart [] = Unit {0}
AreApart (m ∷ ms) = AllByRecursion (Apart m.0) ms × AreApart ms

-- a member whose name is new is put in its place
put_in_at : (o : Ordering) (m x : Member) (xs ys : List Member) (r : Option (List Member)) → is_eq o ≡ false → r ≡ Some ys
    → match_ordering o (Some (m ∷ x ∷ xs)) None (option_map (λ zs. x ∷ zs) r) ≡ Some (match_ordering o (m ∷ x ∷ xs) (m ∷ x ∷ xs) (x ∷ ys))
put_in_at Less m x xs ys r apart is = refl
put_in_at Equal m x xs ys r apart is = absurd (false≢true (sym apart))
put_in_at Greater m x xs ys r apart is = ap (option_map (λ zs. x ∷ zs)) is

put_in-placed : (m : Member) (xs : List Member) → AllByRecursion (Apart m.0) xs → put_in m xs ≡ Some (placed m xs)
put_in-placed m [] apart = refl
put_in-placed m (x ∷ xs) apart = put_in_at (slice_cmp nat_cmp m.0 x.0) m x xs (placed m xs) (put_in m xs) apart.0 (put_in-placed m xs apart.1)

-- what is put in had a new name
apart_through : (n : List ℕ) (xs : List Member) → Below n xs → AllByRecursion (Apart n) xs
apart_through n [] all = tt
apart_through n (x ∷ xs) all = (ap is_eq all.0, apart_through n xs all.1)

placed_at : (o : Ordering) (m x : Member) (xs ys : List Member) (r : Option (List Member)) → slice_cmp nat_cmp m.0 x.0 ≡ o → Below x.0 xs
    → match_ordering o (Some (m ∷ x ∷ xs)) None (option_map (λ zs. x ∷ zs) r) ≡ Some ys
    → ((zs : List Member) → r ≡ Some zs → (zs ≡ placed m xs) × AllByRecursion (Apart m.0) xs)
    → (ys ≡ match_ordering o (m ∷ x ∷ xs) (m ∷ x ∷ xs) (x ∷ placed m xs)) × AllByRecursion (Apart m.0) (x ∷ xs)
placed_at Less m x xs ys r is below h later = (cc, (ap is_eq is, apart_through m.0 xs (below-through m.0 x.0 xs is below)))
placed_at Equal m x xs ys r is below h later = cc
placed_at Greater m x xs ys None is below h later = cc
placed_at Greater m x xs ys (Some zs) is below h later =
    let told = later zs refl in
    let first : x ∷ zs ≡ ys = cc in
    (sym first ∙ ap (λ l. x ∷ l) told.0, (ap is_eq is, told.1))

placed-put_in : (m : Member) (xs ys : List Member) → Rising xs → put_in m xs ≡ Some ys → (ys ≡ placed m xs) × AllByRecursion (Apart m.0) xs
unfolding IsStrictlySortedBy
placed-put_in m [] ys r h = (cc, tt)
placed-put_in m (x ∷ xs) ys r h = placed_at (slice_cmp nat_cmp m.0 x.0) m x xs ys (put_in m xs) refl r.0 h (λ zs is. placed-put_in m xs zs r.1 is)

-- members of names that differ are put in order
pub in_order-apart : (ps : List Member) → AreApart ps → (es : List Member) × (in_order ps ≡ Some es) × IsInOrder ps es
unfolding IsStrictlySortedBy
in_order-apart [] h = ([], refl, record { same = IsPermutation-refl []; rising = tt })
in_order-apart (p ∷ ps) h =
    let r = in_order-apart ps h.1 in
    let perm = r.2.same in
    let apart = moved (Apart p.0) ps r.0 perm h.0 in (
      placed p r.0,
      ap (option_and_then (put_in p)) r.1 ∙ put_in-placed p r.0 apart,
      record { same = IsPermutation-trans _ _ _ (IsPermutation-cons p ps r.0 perm) (permuted p r.0); rising = rising-placed p r.0 r.2.rising apart },
    )

-- what is put in order is in order
sorted_at : (p : Member) (ps es : List Member) (r : Option (List Member)) → option_and_then (put_in p) r ≡ Some es → ((zs : List Member) → r ≡ Some zs → IsInOrder ps zs) → IsInOrder (p ∷ ps) es
sorted_at p ps es None h later = cc
sorted_at p ps es (Some zs) h later =
    let told = later zs refl in
    let here = placed-put_in p zs es told.rising h in
    subst (IsInOrder (p ∷ ps)) (sym here.0) (record { same = IsPermutation-trans _ _ _ (IsPermutation-cons p ps zs told.same) (permuted p zs); rising = rising-placed p zs told.rising here.1 })

pub IsInOrder-in_order : (ps es : List Member) → in_order ps ≡ Some es → IsInOrder ps es
unfolding IsStrictlySortedBy
IsInOrder-in_order [] es h = let none : [] ≡ es = cc in subst (IsInOrder []) none (record { same = IsPermutation-refl []; rising = tt })
IsInOrder-in_order (p ∷ ps) es h = sorted_at p ps es (in_order ps) h (λ zs is. IsInOrder-in_order ps zs is)

apart : (n : List ℕ) (ms : Members) (ps : List Member) → CanonMembers ms ps → has_name n ms ≡ false → AllByRecursion (Apart n) ps
apart n no_members ps h none = subst (AllByRecursion (Apart n)) (sym h) tt
apart n (member k d ms) ps h none =
    let both = or_parts (bytes_eq n (nfc_text k)) (has_name n ms) none in
    subst (AllByRecursion (Apart n)) (sym h.4) (is_eq-slice_cmp n (nfc_text k) ∙ both.0, apart n ms h.1 h.3 both.1)

pub are_apart : (ms : Members) (ps : List Member) → CanonMembers ms ps → members_share_name ms ≡ false → AreApart ps
are_apart no_members ps h none = subst AreApart (sym h) tt
are_apart (member k d ms) ps h none =
    let both = or_parts (has_name (nfc_text k) ms) (shares_name d || members_share_name ms) none in
    let rest = or_parts (shares_name d) (members_share_name ms) both.1 in
    subst AreApart (sym h.4) (apart (nfc_text k) ms h.1 h.3 both.0, are_apart ms h.1 h.3 rest.1)
