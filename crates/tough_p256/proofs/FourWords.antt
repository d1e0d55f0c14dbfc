-- Numbers in four words.
use Rattle.std.proofs.Common.{◌≡◌, ℕ, ◌+◌, ◌*◌, ◌%◌, ◌^◌, ◌<◌, ◌≤◌, List, [], ◌∷◌, length, get_or, refl, sym, ap, ◌∙◌, subst, arith}
use Rattle.std.proofs.Math.Nat.{mod-eq_of_lt}
use Rattle.tough_modular.specs.Number.{number, weight, number_with}
use Rattle.tough_modular.proofs.Products.{taken_once, divided}

pub words : (a b c d : ℕ) → number (a ∷ b ∷ c ∷ d ∷ []) ≡ a + 2 ^ 64 * (b + 2 ^ 64 * (c + 2 ^ 64 * (d + 2 ^ 64 * 0)))
unfolding number
words a b c d = refl

pub four : (xs : List ℕ) → length xs ≡ 4 → number xs ≡ get_or xs 0 0 + 2 ^ 64 * (get_or xs 1 0 + 2 ^ 64 * (get_or xs 2 0 + 2 ^ 64 * (get_or xs 3 0 + 2 ^ 64 * 0)))
unfolding number
four (a ∷ b ∷ c ∷ d ∷ []) h = refl
four [] h = absurd (omega arith)
four (a ∷ []) h = absurd (omega arith)
four (a ∷ b ∷ []) h = absurd (omega arith)
four (a ∷ b ∷ c ∷ []) h = absurd (omega arith)
four (a ∷ b ∷ c ∷ d ∷ e ∷ fs) h = absurd (omega arith)

pub weight_four : weight 4 ≡ 2 ^ 256
unfolding weight
weight_four = refl

pub row_sum : (a b c d e f g h k r0 r1 r2 r3 c0 c1 c2 c3 : ℕ)
    → r0 + 2 ^ 64 * c0 ≡ a + e * k + 0 → r1 + 2 ^ 64 * c1 ≡ b + f * k + c0 → r2 + 2 ^ 64 * c2 ≡ c + g * k + c1 → r3 + 2 ^ 64 * c3 ≡ d + h * k + c2
    → r0 + 2 ^ 64 * (r1 + 2 ^ 64 * (r2 + 2 ^ 64 * (r3 + 2 ^ 64 * 0))) + 2 ^ 256 * c3
    ≡ a + 2 ^ 64 * (b + 2 ^ 64 * (c + 2 ^ 64 * (d + 2 ^ 64 * 0))) + k * (e + 2 ^ 64 * (f + 2 ^ 64 * (g + 2 ^ 64 * (h + 2 ^ 64 * 0))))
row_sum a b c d e f g h k r0 r1 r2 r3 c0 c1 c2 c3 p q r s = omega arith

pub row_difference : (a b c d e f g h r0 r1 r2 r3 b0 b1 b2 b3 : ℕ)
    → r0 + e + 0 ≡ a + 2 ^ 64 * b0 → r1 + f + b0 ≡ b + 2 ^ 64 * b1 → r2 + g + b1 ≡ c + 2 ^ 64 * b2 → r3 + h + b2 ≡ d + 2 ^ 64 * b3
    → r0 + 2 ^ 64 * (r1 + 2 ^ 64 * (r2 + 2 ^ 64 * (r3 + 2 ^ 64 * 0))) + (e + 2 ^ 64 * (f + 2 ^ 64 * (g + 2 ^ 64 * (h + 2 ^ 64 * 0))))
    ≡ a + 2 ^ 64 * (b + 2 ^ 64 * (c + 2 ^ 64 * (d + 2 ^ 64 * 0))) + 2 ^ 256 * b3
row_difference a b c d e f g h r0 r1 r2 r3 b0 b1 b2 b3 p q r s = omega arith

pub row_shift : (a b c d t : ℕ) → a + 2 ^ 64 * (b + 2 ^ 64 * (c + 2 ^ 64 * (d + 2 ^ 64 * (t + 2 ^ 64 * 0)))) ≡ a + 2 ^ 64 * (b + 2 ^ 64 * (c + 2 ^ 64 * (d + 2 ^ 64 * 0))) + 2 ^ 256 * t
row_shift a b c d t = omega arith

pub row_below : (a b c d : ℕ) → a < 2 ^ 64 → b < 2 ^ 64 → c < 2 ^ 64 → d < 2 ^ 64 → a + 2 ^ 64 * (b + 2 ^ 64 * (c + 2 ^ 64 * (d + 2 ^ 64 * 0))) < 2 ^ 256
row_below a b c d p q r s = omega arith

pub divided_four : (t0 t1 t2 t3 x m : List ℕ) (h f d c n q low top : ℕ) → length t0 ≡ 4 → length t1 ≡ 4 → length t2 ≡ 4 → length t3 ≡ 4 → length m ≡ 4 → get_or t2 0 0 < 2 ^ 64
    → number t1 + weight 4 * d ≡ number t0 + f * number x → number t2 + weight 4 * c ≡ number t1 + q * number m → get_or t2 0 0 + 2 ^ 64 * number t3 ≡ number t2 + weight 4 * low → low + 2 ^ 64 * top ≡ h + d + c
    → q ≡ (get_or t1 0 0 * n) % 2 ^ 64 → (get_or m 0 0 * n + 1) % 2 ^ 64 ≡ 0
    → 2 ^ 64 * number_with t3 top ≡ number_with t0 h + f * number x + q * number m
divided_four t0 t1 t2 t3 x m h f d c n q low top l0 l1 l2 l3 lm k e1 e2 e3 e4 times inverse =
    divided t0 t1 t2 t3 x m h f d c n q low top (get_or t2 0 0) (omega arith) (omega arith) (omega arith) (omega arith) (omega arith) k refl
    (subst (λ (i : ℕ). number t1 + weight i * d ≡ number t0 + f * number x) (sym l0) e1)
    (subst (λ (i : ℕ). number t2 + weight i * c ≡ number t1 + q * number m) (sym l1) e2)
    (subst (λ (i : ℕ). get_or t2 0 0 + 2 ^ 64 * number t3 ≡ number t2 + weight i * low) (sym l2) e3)
    e4 times inverse

pub four_below : (xs : List ℕ) → length xs ≡ 4 → ((i : ℕ) → get_or xs i 0 < 2 ^ 64) → number xs < 2 ^ 256
four_below xs h f = rw (four xs h) (row_below _ _ _ _ (f 0) (f 1) (f 2) (f 3))

-- what is borrowed for was below the modulus
pub was_below : (t : List ℕ) (h r m b : ℕ) → length t ≡ 4 → h ≡ 0 → b ≡ 1 → r + m ≡ number t + 2 ^ 256 * b → r < 2 ^ 256 → number t ≡ number_with t h % m
was_below t h r m b l z o e k =
    let y : number_with t h ≡ number t = rw z (omega arith) in
    let f : r + m ≡ number t + 2 ^ 256 = rw o at e in
    rw y (sym (mod-eq_of_lt (omega arith)))

-- and else the modulus is taken away
pub was_above : (t : List ℕ) (h r m b : ℕ) → length t ≡ 4 → m ≤ number t + 2 ^ 256 * h → b < 2 → m < 2 ^ 256 → number_with t h < 2 * m → r + m ≡ number t + 2 ^ 256 * b → r < 2 ^ 256 → r ≡ number_with t h % m
was_above t h r m b l o k n u e p =
    let w : weight (length t) ≡ 2 ^ 256 = ap weight l ∙ weight_four in
    let u' : number t + 2 ^ 256 * h < 2 * m = subst (λ (i : ℕ). number t + i * h < 2 * m) w u in
    subst (λ (i : ℕ). r ≡ (number t + i * h) % m) (sym w) (taken_once (number t) (2 ^ 256) h m r b e k p n u' o)

pub with_four : (xs : List ℕ) (h v : ℕ) → length xs ≡ 4 → number xs + weight 4 * h ≡ v → number_with xs h ≡ v
with_four xs h v l e = subst (λ (i : ℕ). number xs + weight i * h ≡ v) (sym l) e
