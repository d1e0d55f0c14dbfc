-- Where a piece of text ends, the same piece ends in an equal text.
use Rattle.std.proofs.Common.{◌≡◌, ◌≢◌, ℕ, suc, ◌^◌, ◌<◌, Bool, true, false, cond, ◌||◌, ◌==◌, ◌⊎◌, ℤ, pos, negsuc, List, [], ◌∷◌, ◌++◌, length, flat_map, map, decimal, refl, sym, ap, ap₂, ◌∙◌, append_assoc, arith, inl, inr}
use Rattle.std.proofs.lemmas.Bool.{false≢true}
use Rattle.std.proofs.lemmas.Fmt.{decimal_is_IsNumeral_wide}
use Rattle.std.proofs.lemmas.Str.Parse.{digit_from_value}
use Rattle.std.specs.Char.{digit_value}
use Rattle.std.specs.Fmt.{signed_decimal}
use Rattle.std.specs.List.{AllByRecursion}
use Rattle.std.specs.Str.Parse.{AllDigits, digits_value}
use lib.Signed.{mag}
use Rattle.tough_cjson.specs.Canon.{escaped_byte, escaped, quoted, joined}
use Rattle.tough_cjson.proofs.Heads.{wide, wide-suc}

-- nothing, or a comma or a closing bracket first
abbrev pub Ends : List ℕ → Type 0
Ends [] = Unit {0}
Ends (c ∷ cs) = digit_value c ≡ 36

pub span : (us bs x y : List ℕ) → AllDigits 10 us → AllDigits 10 bs → Ends x → Ends y → us ++ x ≡ bs ++ y → (us ≡ bs) × (x ≡ y)
span [] [] x y da db ex ey e = (refl, e)
span [] (b ∷ bs) [] y da db ex ey e = cc
span [] (b ∷ bs) (c ∷ cs) y da db ex ey e = let same : c ≡ b = cc in let d : digit_value b ≡ 36 = sym (ap digit_value same) ∙ ex in absurd (omega (arith, d, db.0))
span (a ∷ us) [] x [] da db ex ey e = cc
span (a ∷ us) [] x (c ∷ cs) da db ex ey e = let same : a ≡ c = cc in let d : digit_value a ≡ 36 = ap digit_value same ∙ ey in absurd (omega (arith, d, da.0))
span (a ∷ us) (b ∷ bs) x y da db ex ey e =
    let first : a ≡ b = cc in
    let rest : us ++ x ≡ bs ++ y = cc in
    let p = span us bs x y da.1 db.1 ex ey rest in
    (ap₂ (λ p ps. p ∷ ps) first p.0, p.1)

decimal-same : (m n : ℕ) → m < 10 ^ 64 → n < 10 ^ 64 → (x y : List ℕ) → Ends x → Ends y → decimal m ++ x ≡ decimal n ++ y → (m ≡ n) × (x ≡ y)
decimal-same m n sm sn x y ex ey e =
    let a = decimal_is_IsNumeral_wide m sm in
    let b = decimal_is_IsNumeral_wide n sn in
    let p = span (decimal m) (decimal n) x y a.0.1 b.0.1 ex ey e in
    (sym a.1 ∙ ap (digits_value 10) p.0 ∙ b.1, p.1)

minus-after : (ds x r : List ℕ) → 0 < length ds → AllDigits 10 ds → ds ++ x ≡ 45 ∷ r → ⊥
minus-after [] x r some all e = omega arith
minus-after (c ∷ cs) x r some all e = let first : c ≡ 45 = cc in let d = digit_from_value c all.0 in omega arith

minus-first : (m : ℕ) (x r : List ℕ) → m < 2 ^ 128 → decimal m ++ x ≡ 45 ∷ r → ⊥
minus-first m x r small e = let d = decimal_is_IsNumeral_wide m (wide m small) in minus-after (decimal m) x r d.0.0 d.0.1 e

pub number-same : (z w : ℤ) → mag z < 2 ^ 128 → mag w < 2 ^ 128 → (x y : List ℕ) → Ends x → Ends y → signed_decimal z ++ x ≡ signed_decimal w ++ y → (z ≡ w) × (x ≡ y)
number-same (pos m) (pos n) sm sn x y ex ey e = let p = decimal-same m n (wide m sm) (wide n sn) x y ex ey e in (ap pos p.0, p.1)
number-same (pos m) (negsuc n) sm sn x y ex ey e = absurd (minus-first m x _ sm e)
number-same (negsuc m) (pos n) sm sn x y ex ey e = absurd (minus-first n y _ sn (sym e))
number-same (negsuc m) (negsuc n) sm sn x y ex ey e =
    let rest : decimal (suc m) ++ x ≡ decimal (suc n) ++ y = cc in
    let p = decimal-same (suc m) (suc n) (wide-suc m sm) (wide-suc n sn) x y ex ey rest in
    let same : m ≡ n = omega arith in
    (ap negsuc same, p.1)

-- ---- quoted texts

pub record Plain (b : ℕ) : Type 0 where
  pub not_quote : b ≢ 34
  pub not_escape : b ≢ 92
  pub is : escaped_byte b ≡ b ∷ []

either_byte : (p : Bool) (b : ℕ) → ((b == 34) || (b == 92)) ≡ p → (escaped_byte b ≡ 92 ∷ b ∷ []) ⊎ Plain b
either_byte true b h = inl (ap (λ c. cond c (92 ∷ b ∷ []) (b ∷ [])) h)
either_byte false b h = inr (record { not_quote = λ e. false≢true (sym h ∙ ap (λ c. (c == 34) || (c == 92)) e); not_escape = λ e. false≢true (sym h ∙ ap (λ c. (c == 34) || (c == 92)) e); is = ap (λ c. cond c (92 ∷ b ∷ []) (b ∷ [])) h })

pub heads_same : (a b : ℕ) (x y : List ℕ) → a ∷ x ≡ b ∷ y → a ≡ b
heads_same a b x y e = cc

byte_cases : (b : ℕ) → (escaped_byte b ≡ 92 ∷ b ∷ []) ⊎ Plain b
byte_cases b = either_byte _ b refl

starts : (b : ℕ) (bs y r : List ℕ) → escaped (b ∷ bs) ++ y ≡ 34 ∷ r → ⊥
unfolding escaped
starts b bs y r e = elim (byte_cases b) [
  | inl special ↦ let f : (92 ∷ b ∷ []) ++ flat_map escaped_byte bs ++ y ≡ 34 ∷ r = sym (ap (λ s. s ++ flat_map escaped_byte bs ++ y) special) ∙ e in let clash = heads_same 92 34 _ _ f in omega (arith, clash)
  | inr plain ↦ let f : (b ∷ []) ++ flat_map escaped_byte bs ++ y ≡ 34 ∷ r = sym (ap (λ s. s ++ flat_map escaped_byte bs ++ y) plain.is) ∙ e in plain.not_quote cc
]

cons-escaped : (b : ℕ) (bs y : List ℕ) (t : List ℕ) → escaped_byte b ≡ t → escaped (b ∷ bs) ++ y ≡ t ++ (escaped bs ++ y)
unfolding escaped
cons-escaped b bs y t is = ap (λ s. (s ++ flat_map escaped_byte bs) ++ y) is ∙ append_assoc t (flat_map escaped_byte bs) y

pub escaped-same : (a b x y : List ℕ) → escaped a ++ 34 ∷ x ≡ escaped b ++ 34 ∷ y → (a ≡ b) × (x ≡ y)
unfolding escaped
escaped-same [] [] x y e = (refl, cc)
escaped-same [] (b ∷ bs) x y e = absurd (starts b bs _ x (sym e))
escaped-same (a ∷ us) [] x y e = absurd (starts a us _ y e)
escaped-same (a ∷ us) (b ∷ bs) x y e =
    elim (byte_cases a) [
      | inl p ↦ elim (byte_cases b) [
        | inl q ↦
            let f : 92 ∷ a ∷ (escaped us ++ 34 ∷ x) ≡ 92 ∷ b ∷ (escaped bs ++ 34 ∷ y) = sym (cons-escaped a us _ _ p) ∙ e ∙ cons-escaped b bs _ _ q in
            let first : a ≡ b = cc in
            let r = escaped-same us bs x y cc in (ap₂ (λ p ps. p ∷ ps) first r.0, r.1)
        | inr q ↦
            let f : 92 ∷ a ∷ (escaped us ++ 34 ∷ x) ≡ b ∷ (escaped bs ++ 34 ∷ y) = sym (cons-escaped a us _ _ p) ∙ e ∙ cons-escaped b bs _ _ q.is in
            absurd (q.not_escape cc)
      ]
      | inr p ↦ elim (byte_cases b) [
        | inl q ↦
            let f : a ∷ (escaped us ++ 34 ∷ x) ≡ 92 ∷ b ∷ (escaped bs ++ 34 ∷ y) = sym (cons-escaped a us _ _ p.is) ∙ e ∙ cons-escaped b bs _ _ q in
            absurd (p.not_escape cc)
        | inr q ↦
            let f : a ∷ (escaped us ++ 34 ∷ x) ≡ b ∷ (escaped bs ++ 34 ∷ y) = sym (cons-escaped a us _ _ p.is) ∙ e ∙ cons-escaped b bs _ _ q.is in
            let first : a ≡ b = cc in
            let r = escaped-same us bs x y cc in (ap₂ (λ p ps. p ∷ ps) first r.0, r.1)
      ]
    ]

pub quoted-same : (a b x y : List ℕ) → quoted a ++ x ≡ quoted b ++ y → (a ≡ b) × (x ≡ y)
quoted-same a b x y e =
    let f : escaped a ++ 34 ∷ x ≡ escaped b ++ 34 ∷ y = sym (append_assoc (escaped a) (34 ∷ []) x) ∙ (cc) ∙ append_assoc (escaped b) (34 ∷ []) y in
    escaped-same a b x y f

-- ---- pieces with commas between them

module _ {A : Type 0} (f : A → List ℕ) (P : A → Type 0) where
  -- a's text ends where that of any other ends
  abbrev pub EndsAlike : A → Type 0
  EndsAlike a = (b : A) (x y : List ℕ) → P b → Ends x → Ends y → f a ++ x ≡ f b ++ y → (a ≡ b) × (x ≡ y)

  -- no text begins with the bracket
  abbrev pub NoneOpens : ℕ → Type 0
  NoneOpens c = (b : A) (x r : List ℕ) → P b → f b ++ x ≡ c ∷ r → ⊥

  abbrev pub rest_of : List A → List ℕ
  rest_of us = flat_map (λ u. 44 ∷ u) (map f us)

  ends : (us : List A) (c : ℕ) (x : List ℕ) → digit_value c ≡ 36 → Ends (rest_of us ++ c ∷ x)
  ends [] c x h = h
  ends (a ∷ us) c x h = refl

  regroup : (t : List ℕ) (us : List A) (x : List ℕ) → (t ++ rest_of us) ++ x ≡ t ++ (rest_of us ++ x)
  regroup t us x = append_assoc t (rest_of us) x

  rest-same : (us bs : List A) (c : ℕ) (x y : List ℕ) → digit_value c ≡ 36 → c ≢ 44 → AllByRecursion EndsAlike us → AllByRecursion P bs → rest_of us ++ c ∷ x ≡ rest_of bs ++ c ∷ y → (us ≡ bs) × (x ≡ y)
  rest-same [] [] c x y h n da db e = (refl, cc)
  rest-same [] (b ∷ bs) c x y h n da db e = absurd (n cc)
  rest-same (a ∷ us) [] c x y h n da db e = absurd (n cc)
  rest-same (a ∷ us) (b ∷ bs) c x y h n da db e =
      let g : f a ++ (rest_of us ++ c ∷ x) ≡ f b ++ (rest_of bs ++ c ∷ y) = sym (regroup (f a) us (c ∷ x)) ∙ (cc) ∙ regroup (f b) bs (c ∷ y) in
      let p = da.0 b _ _ db.0 (ends us c x h) (ends bs c y h) g in
      let r = rest-same us bs c x y h n da.1 db.1 p.1 in
      (ap₂ (λ p ps. p ∷ ps) p.0 r.0, r.1)

  pub joined-same : (us bs : List A) (c : ℕ) (x y : List ℕ) → digit_value c ≡ 36 → c ≢ 44 → NoneOpens c → AllByRecursion EndsAlike us → AllByRecursion P us → AllByRecursion P bs → joined (map f us) ++ c ∷ x ≡ joined (map f bs) ++ c ∷ y → (us ≡ bs) × (x ≡ y)
  joined-same [] [] c x y h n none da pa pb e = (refl, cc)
  joined-same [] (b ∷ bs) c x y h n none da pa pb e = absurd (none b _ x pb.0 (sym (e ∙ regroup (f b) bs (c ∷ y))))
  joined-same (a ∷ us) [] c x y h n none da pa pb e = absurd (none a _ y pa.0 (sym (regroup (f a) us (c ∷ x)) ∙ e))
  joined-same (a ∷ us) (b ∷ bs) c x y h n none da pa pb e =
      let g = sym (regroup (f a) us (c ∷ x)) ∙ e ∙ regroup (f b) bs (c ∷ y) in
      let p = da.0 b _ _ pb.0 (ends us c x h) (ends bs c y h) g in
      let r = rest-same us bs c x y h n da.1 pb.1 p.1 in
      (ap₂ (λ p ps. p ∷ ps) p.0 r.0, r.1)
