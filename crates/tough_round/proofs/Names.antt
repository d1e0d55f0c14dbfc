-- Names of files that differ.
use Rattle.std.proofs.Common.{◌≡◌, ℕ, ◌^◌, ◌<◌, ◌≤◌, Bool, true, false, List, [], ◌∷◌, ◌++◌, decimal, refl, sym, ap, ap₂, ◌∙◌, append_assoc, arith}
use Rattle.std.proofs.lemmas.Bool.{false≢true}
use Rattle.std.proofs.lemmas.Fmt.{decimal_is_IsNumeral_wide}
use Rattle.std.proofs.lemmas.Slice.Eq.{bytes_eq-Decides}
use Rattle.std.specs.Char.{digit_value}
use Rattle.std.specs.Str.{bytes_eq}
use Rattle.std.specs.Str.Parse.{AllDigits, digits_value}
use Rattle.tough_roles.specs.Names.{versioned}

pub same-bytes : (a b : List ℕ) → a ≡ b → bytes_eq a b ≡ true
same-bytes a b h = (bytes_eq-Decides a b).1 h

pub unequal : (a b : List ℕ) → bytes_eq a b ≡ false → a ≡ b → ⊥
unequal a b e h = false≢true (sym e ∙ same-bytes a b h)

pub apart : (a b : List ℕ) → (a ≡ b → ⊥) → bytes_eq a b ≡ false
apart a b h = go (bytes_eq a b) refl
  where
    go : (t : Bool) → bytes_eq a b ≡ t → t ≡ false
    go true e = absurd (h ((bytes_eq-Decides a b).0 e))
    go false e = refl

-- nothing, or no digit first
abbrev Ends : List ℕ → Type 0
Ends [] = Unit {0}
Ends (c ∷ cs) = 10 ≤ digit_value c

span : (us bs x y : List ℕ) → AllDigits 10 us → AllDigits 10 bs → Ends x → Ends y → us ++ x ≡ bs ++ y → (us ≡ bs) × (x ≡ y)
span [] [] x y da db ex ey e = (refl, e)
span [] (b ∷ bs) [] y da db ex ey e = cc
span [] (b ∷ bs) (c ∷ cs) y da db ex ey e = let same : c ≡ b = cc in let d : digit_value b ≡ digit_value c = sym (ap digit_value same) in absurd (omega (arith, d, ex, db.0))
span (a ∷ us) [] x [] da db ex ey e = cc
span (a ∷ us) [] x (c ∷ cs) da db ex ey e = let same : a ≡ c = cc in let d : digit_value a ≡ digit_value c = ap digit_value same in absurd (omega (arith, d, ey, da.0))
span (a ∷ us) (b ∷ bs) x y da db ex ey e =
    let first : a ≡ b = cc in
    let rest : us ++ x ≡ bs ++ y = cc in
    let p = span us bs x y da.1 db.1 ex ey rest in
    (ap₂ (λ p ps. p ∷ ps) first p.0, p.1)

pub versioned-is : (m : ℕ) (x : List ℕ) → versioned m x ≡ decimal m ++ 46 ∷ x
versioned-is m x = append_assoc (decimal m) (46 ∷ []) x

pub same-versioned : (m n : ℕ) (x y : List ℕ) → m < 10 ^ 64 → n < 10 ^ 64 → versioned m x ≡ versioned n y → (m ≡ n) × (x ≡ y)
same-versioned m n x y sm sn e =
    let a = decimal_is_IsNumeral_wide m sm in
    let b = decimal_is_IsNumeral_wide n sn in
    let p = span (decimal m) (decimal n) (46 ∷ x) (46 ∷ y) a.0.1 b.0.1 (omega arith) (omega arith) (sym (versioned-is m x) ∙ e ∙ versioned-is n y) in
    let rest : x ≡ y = cc in
    (sym a.1 ∙ ap (digits_value 10) p.0 ∙ b.1, rest)

-- a versioned name doesn't begin with a letter
pub not-lettered : (m : ℕ) (x y : List ℕ) (c : ℕ) (cs : List ℕ) → y ≡ c ∷ cs → m < 10 ^ 64 → 10 ≤ digit_value c → 46 < c → versioned m x ≡ y → ⊥
not-lettered m x y c cs is sm letter above e =
    let a = decimal_is_IsNumeral_wide m sm in
    let p = span (decimal m) [] (46 ∷ x) (c ∷ cs) a.0.1 tt (omega arith) letter (sym (versioned-is m x) ∙ e ∙ is) in
    let same : 46 ≡ c = cc in
    omega (arith, same, above)
