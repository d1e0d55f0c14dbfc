-- The names of the files of roles: different, and that of the next root is none of them.
use Rattle.std.proofs.Common.{◌≡◌, ℕ, ◌^◌, ◌+◌, ◌<◌, ◌≤◌, Bool, true, false, nat_le, ◌&&◌, ◌||◌, cond, List, [], ◌∷◌, ◌++◌, decimal, codes, get_or, length, IsUtf8, All, ltb, ltb-true, ◌/◌, inl, inr, ◌⊎◌, subst, refl, sym, ap₂, ◌∙◌, arith}
use Rattle.std.specs.List.{list_all}
use Rattle.std.specs.Char.{digit_value}
use Rattle.std.specs.Str.Parse.{AllDigits}
use Rattle.std.proofs.lemmas.Bool.{and_parts, cases_lt}
use Rattle.std.proofs.lemmas.Bool.Decides.{nat_tests}
use Rattle.std.proofs.lemmas.Fmt.{decimal_is_IsNumeral_wide}
use Rattle.std.proofs.Math.ListN.{get_or-eq_default}
use Rattle.std.proofs.lemmas.List.Elements.{All-nil, All-cons, All-append, All-get_or}
use Rattle.percent_encoding.proofs.PercentLemmas.{IsByte}
use lib.Utf8.{scalar, scalars, encode, encodes, next, scalar_cases}
use Rattle.tough_names.specs.Apart.{EncodesApart}
use Rattle.tough_names.proofs.Unreserved.{filename_of-bytes}
use Rattle.tough_names.specs.Filename.{is_unreserved, filename_of}
use Rattle.tough_names.proofs.lemmas.Filenames.{filename_of-unreserved}

within : (n m : ℕ) → n ≤ m → nat_le n m ≡ true
within n m h = grind (arith, nat_tests)

or-left : (a b : Bool) → a ≡ true → (a || b) ≡ true
or-left true b h = refl
or-left false b h = cc

or-right : (a b : Bool) → b ≡ true → (a || b) ≡ true
or-right true b h = refl
or-right false b h = h

both : (a b : Bool) → a ≡ true → b ≡ true → (a && b) ≡ true
both a b h k = ap₂ (λ (x y : Bool). x && y) h k

digit-unreserved : (c : ℕ) → 48 ≤ c → c < 58 → is_unreserved c ≡ true
digit-unreserved c low high =
    or-right (nat_le 65 c && nat_le c 90) _ (or-right (nat_le 97 c && nat_le c 122) _ (or-left (nat_le 48 c && nat_le c 57) _ (both (nat_le 48 c) (nat_le c 57) (within 48 c low) (within c 57 (omega (arith, high))))))

-- a digit's value is below ten exactly for the ten digits
digit-range : (c : ℕ) → digit_value c < 10 → (48 ≤ c) × (c < 58)
digit-range c h = grind (arith, nat_tests)

digits-unreserved : (cs : List ℕ) → AllDigits 10 cs → list_all is_unreserved (cs ++ codes ".root") ≡ true
digits-unreserved [] h = refl
digits-unreserved (c ∷ cs) h =
    let r = digit-range c h.0 in
    both (is_unreserved c) (list_all is_unreserved (cs ++ codes ".root")) (digit-unreserved c r.0 r.1) (digits-unreserved cs h.1)

pub rooted : (n : ℕ) → n < 10 ^ 64 → filename_of (decimal n ++ codes ".root") ≡ decimal n ++ codes ".root"
rooted n small = filename_of-unreserved (decimal n ++ codes ".root") (digits-unreserved (decimal n) (decimal_is_IsNumeral_wide n small).0.1)

-- ---- the bytes of a text

one : (c : ℕ) → c < 256 → All IsByte (c ∷ [])
one c h = All-cons IsByte c [] h (All-nil IsByte)

next-small : (c : ℕ) → next c < 256
next-small c = omega arith

encode-at : (c : ℕ) → c < 1114112 → (p q r : Bool) → ltb c 128 ≡ p → ltb c 2048 ≡ q → ltb c 65536 ≡ r
    → All IsByte (cond p (c ∷ []) (cond q ((192 + c / 64) ∷ next c ∷ []) (cond r ((224 + c / 4096) ∷ next (c / 64) ∷ next c ∷ []) ((240 + c / 262144) ∷ next (c / 4096) ∷ next (c / 64) ∷ next c ∷ []))))
encode-at c s true q r a b d = one c (let h = ltb-true c 128 a in omega (arith, h))
encode-at c s false true r a b d = All-cons IsByte _ (next c ∷ []) (let h = ltb-true c 2048 b in omega (arith, h)) (one (next c) (next-small c))
encode-at c s false false true a b d = All-cons IsByte _ (next (c / 64) ∷ next c ∷ []) (let h = ltb-true c 65536 d in omega (arith, h)) (All-cons IsByte _ (next c ∷ []) (next-small (c / 64)) (one (next c) (next-small c)))
encode-at c s false false false a b d = All-cons IsByte _ (next (c / 4096) ∷ next (c / 64) ∷ next c ∷ []) (omega (arith, s)) (All-cons IsByte _ (next (c / 64) ∷ next c ∷ []) (next-small (c / 4096)) (All-cons IsByte _ (next c ∷ []) (next-small (c / 64)) (one (next c) (next-small c))))

scalar-below : (c : ℕ) → scalar c ≡ true → c < 1114112
scalar-below c h = below (scalar_cases c h) where
  below : (c < 55296) ⊎ ((57344 ≤ c) × (c < 1114112)) → c < 1114112
  below (inl l) = omega (arith, l)
  below (inr r) = r.1

encode-bytes : (c : ℕ) → scalar c ≡ true → All IsByte (encode c)
unfolding encode
encode-bytes c h = encode-at c (scalar-below c h) (ltb c 128) (ltb c 2048) (ltb c 65536) refl refl refl

encodes-bytes : (cs : List ℕ) → scalars cs ≡ true → All IsByte (encodes cs)
encodes-bytes [] h = All-nil IsByte
encodes-bytes (c ∷ cs) h = let p = and_parts (scalar c) (scalars cs) h in All-append IsByte (encode c) (encodes cs) (encode-bytes c p.0) (encodes-bytes cs p.1)

pub text-bytes : (xs : List ℕ) → IsUtf8 xs → All IsByte xs
text-bytes xs (cs, (are, spell)) = subst (All IsByte) spell (encodes-bytes cs are)

-- ---- different names have different files

each-small : (xs : List ℕ) → All IsByte xs → (i : ℕ) → get_or xs i 0 < 256
each-small xs h i = elim (cases_lt i (length xs)) [
  | inl l ↦ All-get_or IsByte xs i 0 l h
  | inr g ↦ let e : get_or xs i 0 ≡ 0 = get_or-eq_default xs 0 g in omega (arith, e)
]

pub files-apart : EncodesApart → (a b : List ℕ) → IsUtf8 a → IsUtf8 b → filename_of a ≡ filename_of b → a ≡ b
files-apart apart a b u v h =
    let p = text-bytes a u in
    let q = text-bytes b v in
    apart a b p q (filename_of-bytes a (each-small a p) ∙ h ∙ sym (filename_of-bytes b (each-small b q)))
