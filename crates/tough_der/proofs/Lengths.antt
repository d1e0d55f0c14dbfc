-- Lengths: what is read is what was written.
use Rattle.std.proofs.Common.{◌≡◌, ℕ, zero, suc, ◌+◌, ◌*◌, ◌/◌, ◌%◌, ◌<◌, ◌≤◌, ◌^◌, Bool, true, false, nat_lt, nat_eq, List, [], ◌∷◌, ◌++◌, length, Some, refl, ap, ◌∙◌, arith}
use Rattle.std.proofs.lemmas.Bool.{lt-ltb, le-ltb, ltb-true, ltb-false, eqb-true, eq-eqb}
use Rattle.std.proofs.Math.Dec.{eqb-suc-zero}
use Rattle.tough_der.specs.Der.{length_octets}
use Rattle.tough_der.specs.Reading.{Read, in_one, in_two, in_three, in_four, length_by, length_at}
use Rattle.tough_der.proofs.Options.{if_some, unless_some, either}

-- each is a byte
abbrev pub IsBytes : List ℕ → Type 0
IsBytes [] = Unit {0}
IsBytes (b ∷ bs) = (b < 256) × IsBytes bs

pub same : (a b : ℕ) → nat_eq a b ≡ true → a ≡ b
same a b e = eqb-true a b e

pub yes : (a : ℕ) → nat_eq a a ≡ true
yes a = eq-eqb a a refl

positive : (a : ℕ) → nat_eq a 0 ≡ false → 0 < a
positive zero e = absurd (cc)
positive (suc a) e = omega arith

not_zero : (a : ℕ) → 0 < a → nat_eq a 0 ≡ false
not_zero zero h = absurd (omega arith)
not_zero (suc a) h = eqb-suc-zero a

pub zero_octets : (n : ℕ) → n < 128 → length_octets n ≡ n ∷ []
unfolding length_octets
zero_octets n h = rw (lt-ltb n 128 h) refl

one_octet : (n : ℕ) → 128 ≤ n → n < 256 → length_octets n ≡ 0x81 ∷ n ∷ []
unfolding length_octets
one_octet n h k = rw (le-ltb n 128 h, lt-ltb n 256 k) refl

two_octets : (n : ℕ) → 256 ≤ n → n < 65536 → length_octets n ≡ 0x82 ∷ (n / 256) ∷ (n % 256) ∷ []
unfolding length_octets
two_octets n h k = rw (le-ltb n 128 (omega arith), le-ltb n 256 h, lt-ltb n 65536 k) refl

three_octets : (n : ℕ) → 65536 ≤ n → n < 16777216 → length_octets n ≡ 0x83 ∷ (n / 65536) ∷ (n / 256 % 256) ∷ (n % 256) ∷ []
unfolding length_octets
three_octets n h k = rw (le-ltb n 128 (omega arith), le-ltb n 256 (omega arith), le-ltb n 65536 h, lt-ltb n 16777216 k) refl

four_octets : (n : ℕ) → 16777216 ≤ n → length_octets n ≡ 0x84 ∷ (n / 16777216) ∷ (n / 65536 % 256) ∷ (n / 256 % 256) ∷ (n % 256) ∷ []
unfolding length_octets
four_octets n h = rw (le-ltb n 128 (omega arith), le-ltb n 256 (omega arith), le-ltb n 65536 (omega arith), le-ltb n 16777216 h) refl

-- ---- what is read was written

one_sound : (bs : List ℕ) (n : ℕ) (r : List ℕ) → IsBytes bs → in_one bs ≡ Some (n, r) → 0x81 ∷ bs ≡ length_octets n ++ r
one_sound [] n r h e = absurd (cc)
one_sound (a ∷ bs) n r h e =
    let f = unless_some (nat_lt a 128) (Some (a, bs)) (n, r) e in
    let q : (a, bs) ≡ (n, r) = cc (f.1) in
    let x : a ≡ n = ap (λ (p : ℕ × List ℕ). p.0) q in
    let y : bs ≡ r = ap (λ (p : ℕ × List ℕ). p.1) q in
    let l : 128 ≤ a = ltb-false a 128 f.0 in
    let w : length_octets a ≡ 0x81 ∷ a ∷ [] = one_octet a l h.0 in
    rw (← x, ← y, w) refl

two_sound : (bs : List ℕ) (n : ℕ) (r : List ℕ) → IsBytes bs → in_two bs ≡ Some (n, r) → 0x82 ∷ bs ≡ length_octets n ++ r
two_sound [] n r h e = absurd (cc)
two_sound (a ∷ []) n r h e = absurd (cc)
two_sound (a ∷ b ∷ bs) n r h e =
    let f = unless_some (nat_eq a 0) (Some (256 * a + b, bs)) (n, r) e in
    let q : (256 * a + b, bs) ≡ (n, r) = cc (f.1) in
    let x : 256 * a + b ≡ n = ap (λ (p : ℕ × List ℕ). p.0) q in
    let y : bs ≡ r = ap (λ (p : ℕ × List ℕ). p.1) q in
    let l : 0 < a = positive a f.0 in
    let u : a < 256 = h.0 in
    let v : b < 256 = h.1.0 in
    let w = two_octets n (omega arith) (omega arith) in
    let s : n / 256 ≡ a = omega arith in
    let t : n % 256 ≡ b = omega arith in
    rw (w, s, t, ← y) refl

three_sound : (bs : List ℕ) (n : ℕ) (r : List ℕ) → IsBytes bs → in_three bs ≡ Some (n, r) → 0x83 ∷ bs ≡ length_octets n ++ r
three_sound [] n r h e = absurd (cc)
three_sound (a ∷ []) n r h e = absurd (cc)
three_sound (a ∷ b ∷ []) n r h e = absurd (cc)
three_sound (a ∷ b ∷ c ∷ bs) n r h e =
    let f = unless_some (nat_eq a 0) (Some (256 * (256 * a + b) + c, bs)) (n, r) e in
    let q : (256 * (256 * a + b) + c, bs) ≡ (n, r) = cc (f.1) in
    let x : 256 * (256 * a + b) + c ≡ n = ap (λ (p : ℕ × List ℕ). p.0) q in
    let y : bs ≡ r = ap (λ (p : ℕ × List ℕ). p.1) q in
    let l : 0 < a = positive a f.0 in
    let u : a < 256 = h.0 in
    let v : b < 256 = h.1.0 in
    let z : c < 256 = h.1.1.0 in
    let w = three_octets n (omega arith) (omega arith) in
    let s : n / 65536 ≡ a = omega arith in
    let o : n / 256 % 256 ≡ b = omega arith in
    let t : n % 256 ≡ c = omega arith in
    rw (w, s, o, t, ← y) refl

four_sound : (bs : List ℕ) (n : ℕ) (r : List ℕ) → IsBytes bs → in_four bs ≡ Some (n, r) → 0x84 ∷ bs ≡ length_octets n ++ r
four_sound [] n r h e = absurd (cc)
four_sound (a ∷ []) n r h e = absurd (cc)
four_sound (a ∷ b ∷ []) n r h e = absurd (cc)
four_sound (a ∷ b ∷ c ∷ []) n r h e = absurd (cc)
four_sound (a ∷ b ∷ c ∷ d ∷ bs) n r h e =
    let f = unless_some (nat_eq a 0) (Some (256 * (256 * (256 * a + b) + c) + d, bs)) (n, r) e in
    let q : (256 * (256 * (256 * a + b) + c) + d, bs) ≡ (n, r) = cc (f.1) in
    let x : 256 * (256 * (256 * a + b) + c) + d ≡ n = ap (λ (p : ℕ × List ℕ). p.0) q in
    let y : bs ≡ r = ap (λ (p : ℕ × List ℕ). p.1) q in
    let l : 0 < a = positive a f.0 in
    let u : a < 256 = h.0 in
    let v : b < 256 = h.1.0 in
    let z : c < 256 = h.1.1.0 in
    let k : d < 256 = h.1.1.1.0 in
    let w = four_octets n (omega arith) in
    let s : n / 16777216 ≡ a = omega arith in
    let o : n / 65536 % 256 ≡ b = omega arith in
    let m : n / 256 % 256 ≡ c = omega arith in
    let t : n % 256 ≡ d = omega arith in
    rw (w, s, o, m, t, ← y) refl

of_octet : (a b : ℕ) (bs : List ℕ) (ds : List ℕ) → nat_eq a b ≡ true → b ∷ bs ≡ ds → a ∷ bs ≡ ds
of_octet a b bs ds e q = ap (λ (x : ℕ). x ∷ bs) (same a b e) ∙ q

short_sound : (a : ℕ) (bs : List ℕ) (n : ℕ) (r : List ℕ) → a < 128 → ◌≡◌ {A = Read ℕ} (Some (a, bs)) (Some (n, r)) → a ∷ bs ≡ length_octets n ++ r
short_sound a bs n r h e =
    let q : (a, bs) ≡ (n, r) = cc (e) in
    let x : a ≡ n = ap (λ (p : ℕ × List ℕ). p.0) q in
    let y : bs ≡ r = ap (λ (p : ℕ × List ℕ). p.1) q in
    let w = zero_octets a h in
    rw (← x, ← y, w) refl

pub by_sound : (a : ℕ) (bs : List ℕ) (n : ℕ) (r : List ℕ) → IsBytes bs → length_by a bs ≡ Some (n, r) → a ∷ bs ≡ length_octets n ++ r
unfolding length_by
by_sound a bs n r h e =
    either (nat_lt a 128) _ _ _ e (λ t f. short_sound a bs n r (ltb-true a 128 t) f) (λ _ e1.
    either (nat_eq a 0x81) _ _ _ e1 (λ t f. of_octet a 0x81 bs _ t (one_sound bs n r h f)) (λ _ e2.
    either (nat_eq a 0x82) _ _ _ e2 (λ t f. of_octet a 0x82 bs _ t (two_sound bs n r h f)) (λ _ e3.
    either (nat_eq a 0x83) _ _ _ e3 (λ t f. of_octet a 0x83 bs _ t (three_sound bs n r h f)) (λ _ e4.
    let f = if_some (nat_eq a 0x84) (in_four bs) (n, r) e4 in
    of_octet a 0x84 bs _ f.0 (four_sound bs n r h f.1)))))

pub length_sound : (bs : List ℕ) (n : ℕ) (r : List ℕ) → IsBytes bs → length_at bs ≡ Some (n, r) → bs ≡ length_octets n ++ r
length_sound [] n r h e = absurd (cc)
length_sound (a ∷ bs) n r h e = by_sound a bs n r h.1 e

-- ---- what was written is read

zero_complete : (n : ℕ) (r : List ℕ) → n < 128 → length_at (n ∷ r) ≡ Some (n, r)
unfolding length_by
zero_complete n r h = rw (lt-ltb n 128 h) refl

one_complete : (n : ℕ) (r : List ℕ) → 128 ≤ n → length_at (0x81 ∷ n ∷ r) ≡ Some (n, r)
unfolding length_by
one_complete n r h = rw (le-ltb n 128 h) refl

two_complete : (a b n : ℕ) (r : List ℕ) → 0 < a → 256 * a + b ≡ n → length_at (0x82 ∷ a ∷ b ∷ r) ≡ Some (n, r)
unfolding length_by
two_complete a b n r h e = rw (not_zero a h, e) refl

three_complete : (a b c n : ℕ) (r : List ℕ) → 0 < a → 256 * (256 * a + b) + c ≡ n → length_at (0x83 ∷ a ∷ b ∷ c ∷ r) ≡ Some (n, r)
unfolding length_by
three_complete a b c n r h e = rw (not_zero a h, e) refl

four_complete : (a b c d n : ℕ) (r : List ℕ) → 0 < a → 256 * (256 * (256 * a + b) + c) + d ≡ n → length_at (0x84 ∷ a ∷ b ∷ c ∷ d ∷ r) ≡ Some (n, r)
unfolding length_by
four_complete a b c d n r h e = rw (not_zero a h, e) refl

by_size : (n : ℕ) (P : Type 0) → (n < 128 → P) → (128 ≤ n → n < 256 → P) → (256 ≤ n → n < 65536 → P) → (65536 ≤ n → n < 16777216 → P) → (16777216 ≤ n → P) → P
by_size n P a b c d e =
    side (nat_lt n 128) 128 refl a (λ x. side (nat_lt n 256) 256 refl (b x) (λ y. side (nat_lt n 65536) 65536 refl (c y) (λ z. side (nat_lt n 16777216) 16777216 refl (d z) e)))
  where
    side : (t : Bool) (m : ℕ) → nat_lt n m ≡ t → (n < m → P) → (m ≤ n → P) → P
    side true m e f g = f (ltb-true n m e)
    side false m e f g = g (ltb-false n m e)

pub length_complete : (n : ℕ) (r : List ℕ) → n < 2 ^ 32 → length_at (length_octets n ++ r) ≡ Some (n, r)
length_complete n r h = by_size n _
    (λ a. let w = zero_octets n a in rw w (zero_complete n r a))
    (λ a b. let w = one_octet n a b in rw w (one_complete n r a))
    (λ a b. let w = two_octets n a b in rw w (two_complete (n / 256) (n % 256) n r (omega arith) (omega arith)))
    (λ a b. let w = three_octets n a b in rw w (three_complete (n / 65536) (n / 256 % 256) (n % 256) n r (omega arith) (omega arith)))
    (λ a. let w = four_octets n a in rw w (four_complete (n / 16777216) (n / 65536 % 256) (n / 256 % 256) (n % 256) n r (omega arith) (omega arith)))

-- a length takes few octets
pub octets_few : (n : ℕ) → length (length_octets n) ≤ 5
octets_few n = by_size n _
    (λ a. let w = zero_octets n a in rw w (omega arith))
    (λ a b. let w = one_octet n a b in rw w (omega arith))
    (λ a b. let w = two_octets n a b in rw w (omega arith))
    (λ a b. let w = three_octets n a b in rw w (omega arith))
    (λ a. let w = four_octets n a in rw w (omega arith))
