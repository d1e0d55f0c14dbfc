-- A canonical text ends where any other ends, and tells its value up to NFC.
use Rattle.std.proofs.Common.{◌≡◌, ℕ, Bool, true, false, cond, codes, List, [], ◌∷◌, ◌++◌, map, refl, sym, ap, ap₂, ◌∙◌, subst, append_assoc, arith}
use Rattle.std.proofs.lemmas.List.{append_cancel_left}
use Rattle.std.specs.Fmt.{signed_decimal}
use Rattle.std.specs.List.{AllByRecursion}
use Rattle.serde_json.specs.Data.{Data, null, boolean, number, string, array, object, Items, no_items, item, Members, no_members, member}
use Rattle.tough_cjson.specs.Canon.{Canon, CanonItems, CanonMembers, Member, joined, member_text, quoted, nfc_text}
use Rattle.tough_cjson.proofs.Heads.{Head, head, Opens, is_null, is_boolean, is_number, is_string, is_array, is_object, no_closing}
use Rattle.tough_cjson.proofs.Ends.{heads_same, number-same, quoted-same, EndsAlike, NoneOpens, joined-same}
use Rattle.tough_cjson.proofs.Ordered.{moved}

abbrev pub IsText : List ℕ → Type 0
IsText t = (e : Data) × Canon e t

abbrev pub IsMember : Member → Type 0
IsMember m = IsText m.1

abbrev pub plain : List ℕ → List ℕ
plain t = t

abbrev pub TextEnds : List ℕ → Type 0
TextEnds = EndsAlike plain IsText

abbrev pub MemberEnds : Member → Type 0
MemberEnds = EndsAlike member_text IsMember

member-ends : (n s : List ℕ) → TextEnds s → MemberEnds (n, s)
member-ends n s ends b x y text ex ey e =
    let g : quoted n ++ 58 ∷ (s ++ x) ≡ quoted b.0 ++ 58 ∷ (b.1 ++ y) = sym (append_assoc (quoted n) (58 ∷ s) x) ∙ e ∙ append_assoc (quoted b.0) (58 ∷ b.1) y in
    let p = quoted-same n b.0 _ _ g in
    let rest : s ++ x ≡ b.1 ++ y = cc (p.1) in
    let r = ends b.1 x y text ex ey rest in
    (ap₂ (λ u v. (u, v)) p.0 r.0, r.1)

no_text-opens : NoneOpens plain IsText 93
no_text-opens b x r text e =
    let o = head text.0 b text.1 in
    (no_closing text.0 o.first o.opens).0 (heads_same o.first 93 _ _ (sym (ap (λ u. u ++ x) o.is) ∙ e))

no_member-opens : NoneOpens member_text IsMember 125
no_member-opens b x r text e = let clash = heads_same 34 125 _ _ e in omega (arith, clash)

pub opened : (d e : Data) (s t x y : List ℕ) (p : Head d s) (q : Head e t) → s ++ x ≡ t ++ y → Opens e p.first
opened d e s t x y p q h =
    let f : p.first ∷ (p.rest ++ x) ≡ q.first ∷ (q.rest ++ y) = sym (ap (λ u. u ++ x) p.is) ∙ h ∙ ap (λ u. u ++ y) q.is in
    subst (Opens e) (sym (heads_same p.first q.first _ _ f)) q.opens

same-end : (s t x y : List ℕ) → s ≡ t → s ++ x ≡ t ++ y → (s ≡ t) × (x ≡ y)
same-end s t x y same e = (same, append_cancel_left t x y (sym (ap (λ u. u ++ x) same) ∙ e))

abbrev pub bool_text : Bool → List ℕ
bool_text b = cond b (codes "true") (codes "false")

pub bool-same : (b c : Bool) (x y : List ℕ) → bool_text b ++ x ≡ bool_text c ++ y → b ≡ c
bool-same true true x y e = refl
bool-same true false x y e = let clash = heads_same 116 102 _ _ e in absurd (omega (arith, clash))
bool-same false true x y e = let clash = heads_same 102 116 _ _ e in absurd (omega (arith, clash))
bool-same false false x y e = refl

map-plain : (ts : List (List ℕ)) → map plain ts ≡ ts
map-plain [] = refl
map-plain (t ∷ ts) = ap (λ us. t ∷ us) (map-plain ts)

pub array-same : (ts us : List (List ℕ)) (x y : List ℕ) → AllByRecursion TextEnds ts → AllByRecursion IsText ts → AllByRecursion IsText us → (91 ∷ (joined ts ++ 93 ∷ [])) ++ x ≡ (91 ∷ (joined us ++ 93 ∷ [])) ++ y → (ts ≡ us) × (x ≡ y)
array-same ts us x y ends a b e =
    let f : (joined ts ++ 93 ∷ []) ++ x ≡ (joined us ++ 93 ∷ []) ++ y = cc in
    let g : joined (map plain ts) ++ 93 ∷ x ≡ joined (map plain us) ++ 93 ∷ y = ap (λ l. joined l ++ 93 ∷ x) (map-plain ts) ∙ sym (append_assoc (joined ts) (93 ∷ []) x) ∙ f ∙ append_assoc (joined us) (93 ∷ []) y ∙ ap (λ l. joined l ++ 93 ∷ y) (sym (map-plain us)) in
    joined-same plain IsText ts us 93 x y refl (omega arith) no_text-opens ends a b g

pub object-same : (es fs : List Member) (x y : List ℕ) → AllByRecursion MemberEnds es → AllByRecursion IsMember es → AllByRecursion IsMember fs → (123 ∷ (joined (map member_text es) ++ 125 ∷ [])) ++ x ≡ (123 ∷ (joined (map member_text fs) ++ 125 ∷ [])) ++ y → (es ≡ fs) × (x ≡ y)
object-same es fs x y ends a b e =
    let f : (joined (map member_text es) ++ 125 ∷ []) ++ x ≡ (joined (map member_text fs) ++ 125 ∷ []) ++ y = cc in
    let g = sym (append_assoc (joined (map member_text es)) (125 ∷ []) x) ∙ f ∙ append_assoc (joined (map member_text fs)) (125 ∷ []) y in
    joined-same member_text IsMember es fs 125 x y refl (omega arith) no_member-opens ends a b g

pub items-text : (ds : Items) (ts : List (List ℕ)) → CanonItems ds ts → AllByRecursion IsText ts
items-text no_items ts h = subst (AllByRecursion IsText) (sym h) tt
items-text (item d ds) ts h = subst (AllByRecursion IsText) (sym h.4) ((d, h.2), items-text ds h.1 h.3)

pub members-text : (ms : Members) (ps : List Member) → CanonMembers ms ps → AllByRecursion IsMember ps
members-text no_members ps h = subst (AllByRecursion IsMember) (sym h) tt
members-text (member k d ms) ps h = subst (AllByRecursion IsMember) (sym h.4) ((d, h.2), members-text ms h.1 h.3)

mutual
  pub text-ends : (d : Data) (s : List ℕ) → Canon d s → TextEnds s
  text-ends null s h t x y told ex ey e =
      let p = head null s h in
      let is = is_null told.0 p.first (opened null told.0 s t x y p (head told.0 t told.1) e) p.opens in
      let other : t ≡ codes "null" = subst (λ d. Canon d t) is told.1 in
      same-end s t x y (h ∙ sym other) e
  text-ends (boolean b) s h t x y told ex ey e =
      let p = head (boolean b) s h in
      let o = opened (boolean b) told.0 s t x y p (head told.0 t told.1) e in
      let is = is_boolean told.0 p.first o p.opens.0 p.opens.1 p.opens.2 in
      let other : t ≡ bool_text is.0 = subst (λ d. Canon d t) is.1 told.1 in
      let same = bool-same b is.0 x y (sym (ap (λ u. u ++ x) h) ∙ e ∙ ap (λ u. u ++ y) other) in
      same-end s t x y (h ∙ ap bool_text same ∙ sym other) e
  text-ends (number n) s h t x y told ex ey e =
      let p = head (number n) s h in
      let o = opened (number n) told.0 s t x y p (head told.0 t told.1) e in
      let is = is_number told.0 p.first o p.opens.0 p.opens.1 in
      let other = subst (λ d. Canon d t) is.1 told.1 in
      let r = number-same h.whole other.whole h.small other.small x y ex ey (sym (ap (λ u. u ++ x) h.text) ∙ e ∙ ap (λ u. u ++ y) other.text) in
      (h.text ∙ ap signed_decimal r.0 ∙ sym other.text, r.1)
  text-ends (string u) s h t x y told ex ey e =
      let p = head (string u) s h in
      let is = is_string told.0 p.first (opened (string u) told.0 s t x y p (head told.0 t told.1) e) p.opens in
      let other : t ≡ quoted (nfc_text is.0) = subst (λ d. Canon d t) is.1 told.1 in
      let r = quoted-same (nfc_text u) (nfc_text is.0) x y (sym (ap (λ u. u ++ x) h) ∙ e ∙ ap (λ u. u ++ y) other) in
      (h ∙ ap quoted r.0 ∙ sym other, r.1)
  text-ends (array ds) s h t x y told ex ey e =
      let p = head (array ds) s h in
      let is = is_array told.0 p.first (opened (array ds) told.0 s t x y p (head told.0 t told.1) e) p.opens in
      let other = subst (λ d. Canon d t) is.1 told.1 in
      let r = array-same h.0 other.0 x y (items-end ds h.0 h.1) (items-text ds h.0 h.1) (items-text is.0 other.0 other.1) (sym (ap (λ u. u ++ x) h.2) ∙ e ∙ ap (λ u. u ++ y) other.2) in
      (h.2 ∙ ap (λ l. 91 ∷ (joined l ++ 93 ∷ [])) r.0 ∙ sym other.2, r.1)
  text-ends (object ms) s h t x y told ex ey e =
      let p = head (object ms) s h in
      let is = is_object told.0 p.first (opened (object ms) told.0 s t x y p (head told.0 t told.1) e) p.opens in
      let other = subst (λ d. Canon d t) is.1 told.1 in
      let r = object-same h.1 other.1 x y (moved MemberEnds h.0 h.1 h.3.same (members-end ms h.0 h.2)) (moved IsMember h.0 h.1 h.3.same (members-text ms h.0 h.2)) (moved IsMember other.0 other.1 other.3.same (members-text is.0 other.0 other.2))
      (sym (ap (λ u. u ++ x) h.4) ∙ e ∙ ap (λ u. u ++ y) other.4) in
      (h.4 ∙ ap (λ l. 123 ∷ (joined (map member_text l) ++ 125 ∷ [])) r.0 ∙ sym other.4, r.1)

  pub items-end : (ds : Items) (ts : List (List ℕ)) → CanonItems ds ts → AllByRecursion TextEnds ts
  items-end no_items ts h = subst (AllByRecursion TextEnds) (sym h) tt
  items-end (item d ds) ts h = subst (AllByRecursion TextEnds) (sym h.4) (text-ends d h.0 h.2, items-end ds h.1 h.3)

  pub members-end : (ms : Members) (ps : List Member) → CanonMembers ms ps → AllByRecursion MemberEnds ps
  members-end no_members ps h = subst (AllByRecursion MemberEnds) (sym h) tt
  members-end (member k d ms) ps h = subst (AllByRecursion MemberEnds) (sym h.4) (member-ends (nfc_text k) h.0 (text-ends d h.0 h.2), members-end ms h.1 h.3)
