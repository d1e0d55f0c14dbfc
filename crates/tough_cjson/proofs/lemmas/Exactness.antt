-- One text for each value, and the same text exactly for values that are the same up to NFC.
use Rattle.std.proofs.Common.{◌≡◌, ℕ, Bool, true, false, ◌||◌, codes, ℤ, List, [], ◌∷◌, ◌++◌, Some, Err, map, nat_cmp, refl, sym, ap, ap₂, ◌∙◌, subst, inl, inr}
use Rattle.std.proofs.lemmas.Bool.{false≢true}
use Rattle.std.proofs.lemmas.Cmp.{nat_list_cmp_total, eq_by_cmp_equiv}
use Rattle.std.proofs.lemmas.List.Sorted.{IsPermutation-sym, IsPermutation-map}
use Rattle.std.proofs.lemmas.Map.Keys.{IsDistinct-from_sorted, IsDistinct-IsPermutation}
use Rattle.std.proofs.lemmas.Map.Text.{is_eq-slice_cmp}
use Rattle.std.specs.Cmp.Lexicographic.{slice_cmp}
use Rattle.std.specs.Fmt.{signed_decimal}
use Rattle.std.specs.List.{AllByRecursion, IsDistinct}
use Rattle.std.specs.List.Sorted.{IsPermutation}
use Rattle.std.specs.Map.{keys_of}
use Rattle.std.specs.Ordering.{eq_by_cmp}
use Rattle.serde_json.specs.Data.{Num, unsigned, negative, float, Data, null, boolean, number, string, array, object, Items, no_items, item, Members, no_members, member}
use Rattle.serde_json.specs.Find.{as_integer, is_float}
use Rattle.serde_json.specs.Written.{has_float, items_have_float, members_have_float}
use Rattle.tough_cjson.specs.Canon.{Canon, CanonItems, CanonMembers, Member, joined, member_text, quoted, nfc_text, has_name, shares_name, items_share_name, members_share_name, Holds, IsTextOrMemory}
use Rattle.tough_cjson.specs.declared.error.CjsonError.{CjsonError}
use Rattle.tough_cjson.specs.declared.error.CjsonError.TheVariants.{Float, SameName, Memory}
use Rattle.tough_cjson.specs.Same.{Same, SameItems, SameMembers, HasMember, HaveNamesIn}
use Rattle.tough_cjson.proofs.Heads.{head, is_null, is_boolean, is_number, is_string, is_array, is_object}
use Rattle.tough_cjson.proofs.Ends.{number-same, quoted-same}
use Rattle.tough_cjson.proofs.Ordered.{In, moved, all-of, in-all, in-moved, in-back, sorted-same, one-text, in-has_name, has_name-in}
use Rattle.tough_cjson.proofs.Unambiguous.{IsMember, MemberEnds, opened, bool_text, bool-same, array-same, object-same, items-text, members-text, items-end, members-end}

held-same : (n : Num) (z w : ℤ) → as_integer n ≡ Some z → as_integer n ≡ Some w → z ≡ w
held-same n z w e f = let both : Some z ≡ Some w = sym e ∙ f in cc

-- ---- one text

mutual
  pub one : (d : Data) (s t : List ℕ) → Canon d s → Canon d t → s ≡ t
  one null s t h k = h ∙ sym k
  one (boolean b) s t h k = h ∙ sym k
  one (number n) s t h k = h.text ∙ ap signed_decimal (held-same n h.whole k.whole h.held k.held) ∙ sym k.text
  one (string u) s t h k = h ∙ sym k
  one (array ds) s t h k = h.2 ∙ ap (λ l. 91 ∷ (joined l ++ 93 ∷ [])) (one-items ds h.0 k.0 h.1 k.1) ∙ sym k.2
  one (object ms) s t h k =
      let same = one-members ms h.0 k.0 h.2 k.2 in
      let over : IsPermutation h.0 k.1 = subst (λ l. IsPermutation l k.1) (sym same) k.3.same in
      let sorted = sorted-same h.1 k.1 h.3.rising k.3.rising (λ m i. in-moved h.0 k.1 m over (in-back h.0 h.1 m h.3.same i)) (λ m i. in-moved h.0 h.1 m h.3.same (in-back h.0 k.1 m over i)) in
      h.4 ∙ ap (λ l. 123 ∷ (joined (map member_text l) ++ 125 ∷ [])) sorted ∙ sym k.4

  pub one-items : (ds : Items) (ts us : List (List ℕ)) → CanonItems ds ts → CanonItems ds us → ts ≡ us
  one-items no_items ts us h k = h ∙ sym k
  one-items (item d ds) ts us h k = h.4 ∙ ap₂ (λ p ps. p ∷ ps) (one d h.0 k.0 h.2 k.2) (one-items ds h.1 k.1 h.3 k.3) ∙ sym k.4

  pub one-members : (ms : Members) (ps qs : List Member) → CanonMembers ms ps → CanonMembers ms qs → ps ≡ qs
  one-members no_members ps qs h k = h ∙ sym k
  one-members (member n d ms) ps qs h k = h.4 ∙ ap₂ (λ p rest. (nfc_text n, p) ∷ rest) (one d h.0 k.0 h.2 k.2) (one-members ms h.1 k.1 h.3 k.3) ∙ sym k.4

-- ---- the same text, so the same value up to NFC

again : (s t : List ℕ) → s ≡ t → s ++ [] ≡ t ++ []
again s t e = ap (λ u. u ++ []) e

found : (ns : Members) (qs : List Member) (n s : List ℕ) (P : Data → Type 0) → CanonMembers ns qs → In (n, s) qs → ((e : Data) → Canon e s → P e) → HasMember n P ns
found no_members qs n s P h i f = absurd (subst (In (n, s)) h i)
found (member l e ns) qs n s P h i f = elim (subst (In (n, s)) h.4 i) [
  | inl p ↦ inl (sym (ap (λ (z : Member). z.0) p), f e (subst (Canon e) (sym (ap (λ (z : Member). z.1) p)) h.2))
  | inr j ↦ inr (found ns h.1 n s P h.3 j f)
]

names-in : (ns : Members) (qs : List Member) (ms : Members) → CanonMembers ns qs → AllByRecursion (λ m. has_name m.0 ms ≡ true) qs → HaveNamesIn ns ms
names-in no_members qs ms h all = tt
names-in (member l e ns) qs ms h all = let both = subst (AllByRecursion (λ m. has_name m.0 ms ≡ true)) h.4 all in (both.0, names-in ns h.1 ms h.3 both.1)

mutual
  pub same : (d e : Data) (s t : List ℕ) → Canon d s → Canon e t → s ≡ t → Same d e
  same null e s t h k is =
      let p = head null s h in
      is_null e p.first (opened null e s t [] [] p (head e t k) (again s t is)) p.opens
  same (boolean b) e s t h k is =
      let p = head (boolean b) s h in
      let o = opened (boolean b) e s t [] [] p (head e t k) (again s t is) in
      let kind = is_boolean e p.first o p.opens.0 p.opens.1 p.opens.2 in
      let other : t ≡ bool_text kind.0 = subst (λ d. Canon d t) kind.1 k in
      kind.1 ∙ ap boolean (sym (bool-same b kind.0 [] [] (again _ _ (sym h ∙ is ∙ other))))
  same (number n) e s t h k is =
      let p = head (number n) s h in
      let o = opened (number n) e s t [] [] p (head e t k) (again s t is) in
      let kind = is_number e p.first o p.opens.0 p.opens.1 in
      let other = subst (λ d. Canon d t) kind.1 k in
      let r = number-same h.whole other.whole h.small other.small [] [] tt tt (again _ _ (sym h.text ∙ is ∙ other.text)) in
      (kind.0, kind.1, h.whole, h.held, other.held ∙ ap Some (sym r.0))
  same (string u) e s t h k is =
      let p = head (string u) s h in
      let kind = is_string e p.first (opened (string u) e s t [] [] p (head e t k) (again s t is)) p.opens in
      let other : t ≡ quoted (nfc_text kind.0) = subst (λ d. Canon d t) kind.1 k in
      (kind.0, kind.1, (quoted-same (nfc_text u) (nfc_text kind.0) [] [] (again _ _ (sym h ∙ is ∙ other))).0)
  same (array ds) e s t h k is =
      let p = head (array ds) s h in
      let kind = is_array e p.first (opened (array ds) e s t [] [] p (head e t k) (again s t is)) p.opens in
      let other = subst (λ d. Canon d t) kind.1 k in
      let r = array-same h.0 other.0 [] [] (items-end ds h.0 h.1) (items-text ds h.0 h.1) (items-text kind.0 other.0 other.1) (again _ _ (sym h.2 ∙ is ∙ other.2)) in
      (kind.0, kind.1, same-items ds kind.0 h.0 other.0 h.1 other.1 r.0)
  same (object ms) e s t h k is =
      let p = head (object ms) s h in
      let kind = is_object e p.first (opened (object ms) e s t [] [] p (head e t k) (again s t is)) p.opens in
      let other = subst (λ d. Canon d t) kind.1 k in
      let r = object-same h.1 other.1 [] [] (moved MemberEnds h.0 h.1 h.3.same (members-end ms h.0 h.2)) (moved IsMember h.0 h.1 h.3.same (members-text ms h.0 h.2)) (moved IsMember other.0 other.1 other.3.same (members-text kind.0 other.0 other.2))
      (again _ _ (sym h.4 ∙ is ∙ other.4)) in
      let over : IsPermutation h.0 other.1 = subst (IsPermutation h.0) r.0 h.3.same in (
        kind.0,
        kind.1,
        same-members ms kind.0 h.0 other.0 h.2 other.2 (all-of (λ m. In m other.0) h.0 (λ m i. in-back other.0 other.1 m other.3.same (in-moved h.0 other.1 m over i))),
        names-in kind.0 other.0 ms other.2 (all-of (λ m. has_name m.0 ms ≡ true) other.0 (λ m i. in-has_name m ms h.0 h.2 (in-back h.0 other.1 m over (in-moved other.0 other.1 m other.3.same i)))),
      )

  same-items : (ds es : Items) (ts us : List (List ℕ)) → CanonItems ds ts → CanonItems es us → ts ≡ us → SameItems ds es
  same-items no_items no_items ts us h k is = refl
  same-items no_items (item e es) ts us h k is = let clash : [] ≡ k.0 ∷ k.1 = sym h ∙ is ∙ k.4 in cc
  same-items (item d ds) no_items ts us h k is = let clash : h.0 ∷ h.1 ≡ [] = sym h.4 ∙ is ∙ k in cc
  same-items (item d ds) (item e es) ts us h k is =
      let both : h.0 ∷ h.1 ≡ k.0 ∷ k.1 = sym h.4 ∙ is ∙ k.4 in
      (e, es, refl, same d e h.0 k.0 h.2 k.2 cc, same-items ds es h.1 k.1 h.3 k.3 cc)

  same-members : (ms ns : Members) (ps qs : List Member) → CanonMembers ms ps → CanonMembers ns qs → AllByRecursion (λ m. In m qs) ps → SameMembers ms ns
  same-members no_members ns ps qs h k all = tt
  same-members (member n d ms) ns ps qs h k all =
      let both = subst (AllByRecursion (λ m. In m qs)) h.4 all in
      (found ns qs (nfc_text n) h.0 (Same d) k both.0 (λ e c. same d e h.0 h.0 h.2 c refl), same-members ms ns h.1 qs h.3 k both.1)

-- ---- the same value up to NFC, so the same text

held : (ns : Members) (qs : List Member) (n s : List ℕ) (P : Data → Type 0) → CanonMembers ns qs → HasMember n P ns → ((e : Data) (t : List ℕ) → P e → Canon e t → s ≡ t) → In (n, s) qs
held no_members qs n s P h has f = absurd has
held (member l e ns) qs n s P h has f = subst (In (n, s)) (sym h.4) (elim has [
  | inl p ↦ inl (ap₂ (λ u v. (u, v)) (sym p.0) (f e h.0 p.1 h.2))
  | inr j ↦ inr (held ns h.1 n s P h.3 j f)
])

names-held : (ns : Members) (qs : List Member) (ms : Members) → CanonMembers ns qs → HaveNamesIn ns ms → AllByRecursion (λ m. has_name m.0 ms ≡ true) qs
names-held no_members qs ms h all = subst (AllByRecursion (λ m. has_name m.0 ms ≡ true)) (sym h) tt
names-held (member l e ns) qs ms h all = subst (AllByRecursion (λ m. has_name m.0 ms ≡ true)) (sym h.4) (all.0, names-held ns h.1 ms h.3 all.1)

mutual
  pub text : (d e : Data) (s t : List ℕ) → Canon d s → Canon e t → Same d e → s ≡ t
  text null e s t h k is = let other : t ≡ codes "null" = subst (λ d. Canon d t) is k in h ∙ sym other
  text (boolean b) e s t h k is = let other : t ≡ bool_text b = subst (λ d. Canon d t) is k in h ∙ sym other
  text (number n) e s t h k is =
      let other = subst (λ d. Canon d t) is.1 k in
      let z = held-same n h.whole is.2 h.held is.3 ∙ sym (held-same is.0 other.whole is.2 other.held is.4) in
      h.text ∙ ap signed_decimal z ∙ sym other.text
  text (string u) e s t h k is = let other : t ≡ quoted (nfc_text is.0) = subst (λ d. Canon d t) is.1 k in h ∙ ap quoted is.2 ∙ sym other
  text (array ds) e s t h k is =
      let other = subst (λ d. Canon d t) is.1 k in
      h.2 ∙ ap (λ l. 91 ∷ (joined l ++ 93 ∷ [])) (text-items ds is.0 h.0 other.0 h.1 other.1 is.2) ∙ sym other.2
  text (object ms) e s t h k is =
      let other = subst (λ d. Canon d t) is.1 k in
      let ps = h.0 in
      let es = h.1 in
      let qs = other.0 in
      let fs = other.1 in
      let within = text-members ms is.0 ps qs h.2 other.2 is.2 in
      let there : (m : Member) → In m es → In m fs = λ m i. in-moved qs fs m other.3.same (in-all (λ z. In z qs) ps m within (in-back ps es m h.3.same i)) in
      let back : (m : Member) → In m fs → In m es =
      λ m i.
      let has = in-all (λ z. has_name z.0 ms ≡ true) qs m (names-held is.0 qs ms other.2 is.3) (in-back qs fs m other.3.same i) in
      let r = has_name-in m.0 ms ps h.2 has in
      let j = in-moved ps es (m.0, r.0) h.3.same r.1 in
      let one = one-text fs m.0 r.0 m.1 other.3.rising (there (m.0, r.0) j) i in
      subst (λ v. In (m.0, v) es) one j in
      h.4 ∙ ap (λ l. 123 ∷ (joined (map member_text l) ++ 125 ∷ [])) (sorted-same es fs h.3.rising other.3.rising there back) ∙ sym other.4

  text-items : (ds es : Items) (ts us : List (List ℕ)) → CanonItems ds ts → CanonItems es us → SameItems ds es → ts ≡ us
  text-items no_items es ts us h k is = let other : us ≡ [] = subst (λ l. CanonItems l us) is k in h ∙ sym other
  text-items (item d ds) es ts us h k is =
      let other = subst (λ l. CanonItems l us) is.2 k in
      h.4 ∙ ap₂ (λ p ps. p ∷ ps) (text d is.0 h.0 other.0 h.2 other.2 is.3) (text-items ds is.1 h.1 other.1 h.3 other.3 is.4) ∙ sym other.4

  text-members : (ms ns : Members) (ps qs : List Member) → CanonMembers ms ps → CanonMembers ns qs → SameMembers ms ns → AllByRecursion (λ m. In m qs) ps
  text-members no_members ns ps qs h k is = subst (AllByRecursion (λ m. In m qs)) (sym h) tt
  text-members (member n d ms) ns ps qs h k is =
      subst (AllByRecursion (λ m. In m qs)) (sym h.4) (held ns qs (nfc_text n) h.0 (Same d) k is.0 (λ e t p c. text d e h.0 t h.2 c p), text-members ms ns h.1 qs h.3 k is.1)

-- ---- what has a text is not refused

neither : (b c : Bool) → b ≡ false → c ≡ false → (b || c) ≡ false
neither b c e f = ap₂ (λ p q. p || q) e f

whole-no_float : (n : Num) (z : ℤ) → as_integer n ≡ Some z → is_float n ≡ false
whole-no_float (unsigned m) z e = refl
whole-no_float (negative w) z e = refl
whole-no_float (float x) z e = cc

no_name : (n : List ℕ) (ms : Members) (ps : List Member) → CanonMembers ms ps → AllByRecursion (λ y. eq_by_cmp (slice_cmp nat_cmp) n y ≡ false) (keys_of ps) → has_name n ms ≡ false
no_name n no_members ps h all = refl
no_name n (member k d ms) ps h all =
    let both = subst (λ (l : List Member). AllByRecursion (λ y. eq_by_cmp (slice_cmp nat_cmp) n y ≡ false) (keys_of l)) h.4 all in
    neither _ _ (sym (is_eq-slice_cmp n (nfc_text k)) ∙ both.0) (no_name n ms h.1 h.3 both.1)

mutual
  unfolding IsDistinct

  pub accepted : (d : Data) (s : List ℕ) → Canon d s → (has_float d ≡ false) × (shares_name d ≡ false)
  accepted null s h = (refl, refl)
  accepted (boolean b) s h = (refl, refl)
  accepted (number n) s h = (whole-no_float n h.whole h.held, refl)
  accepted (string u) s h = (refl, refl)
  accepted (array ds) s h = accepted-items ds h.0 h.1
  accepted (object ms) s h =
      let apart = IsDistinct-from_sorted (slice_cmp nat_cmp) (keys_of h.1) h.3.rising in
      let back = IsPermutation-map (λ (m : Member). m.0) h.1 h.0 (IsPermutation-sym h.0 h.1 h.3.same) in
      accepted-members ms h.0 h.2 (IsDistinct-IsPermutation (eq_by_cmp (slice_cmp nat_cmp)) (eq_by_cmp_equiv nat_list_cmp_total).symm (keys_of h.1) (keys_of h.0) back apart)

  accepted-items : (ds : Items) (ts : List (List ℕ)) → CanonItems ds ts → (items_have_float ds ≡ false) × (items_share_name ds ≡ false)
  accepted-items no_items ts h = (refl, refl)
  accepted-items (item d ds) ts h =
      let first = accepted d h.0 h.2 in
      let rest = accepted-items ds h.1 h.3 in
      (neither _ _ first.0 rest.0, neither _ _ first.1 rest.1)

  accepted-members : (ms : Members) (ps : List Member) → CanonMembers ms ps → IsDistinct (eq_by_cmp (slice_cmp nat_cmp)) (keys_of ps) → (members_have_float ms ≡ false) × (members_share_name ms ≡ false)
  accepted-members no_members ps h apart = (refl, refl)
  accepted-members (member k d ms) ps h apart =
      let both = subst (λ (l : List Member). IsDistinct (eq_by_cmp (slice_cmp nat_cmp)) (keys_of l)) h.4 apart in
      let first = accepted d h.0 h.2 in
      let rest = accepted-members ms h.1 h.3 both.1 in
      (neither _ _ first.0 rest.0, neither _ _ (no_name (nfc_text k) ms h.1 h.3 both.0) (neither _ _ first.1 rest.1))

-- ---- what a call answers, where the value has a text

pub not_refused : (d : Data) (t : List ℕ) (e : CjsonError) → Canon d t → Holds d e → IsTextOrMemory t (Err e)
not_refused d t Float h has = false≢true (sym (accepted d t h).0 ∙ has)
not_refused d t SameName h has = false≢true (sym (accepted d t h).1 ∙ has)
not_refused d t Memory h has = tt
