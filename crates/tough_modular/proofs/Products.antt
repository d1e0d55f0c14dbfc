-- The step of a product, and what is left at its end.
use Rattle.std.proofs.Common.{◌≡◌, ◌≢◌, Bool, false, nat_lt, ℕ, zero, suc, ◌+◌, ◌-◌, ◌*◌, ◌/◌, ◌%◌, ◌^◌, ◌<◌, ◌≤◌, List, [], ◌∷◌, length, get_or, take, drop, set, replicate, refl, sym, ap, ◌∙◌, subst, arith, add-one, length-set, pow-suc}
use Rattle.std.proofs.Math.Nat.{mod-eq_of_lt, add-mod_right, mul-le-mul_left, mul-le-mul_right, add-mul-mod_self_right, mod-lt}
use Rattle.tough_modular.specs.Number.{number, weight, number_with}
use Rattle.tough_modular.proofs.Numbers.{number_none, number_more, number_written, number_all, weight_none, weight_more, at_rest, drop_next}
use Rattle.std.proofs.lemmas.List.{drop-set-lt}
use Rattle.std.proofs.lemmas.Nat.{mul-mod_first, mul-mod_second}
use Rattle.std.proofs.lemmas.Bool.Decides.{nat_tests}

-- the remainder of a number that is once the modulus and less
pub once_more : (x r m : ℕ) → r < m → r + m ≡ x → r ≡ x % m
once_more x r m h e = rw (← e, add-mod_right r m) (sym (mod-eq_of_lt h))

-- a difference that was borrowed for as high a word as there is
pub taken_once : (T W h M r b : ℕ) → r + M ≡ T + W * b → b < 2 → r < W → M < W → T + W * h < 2 * M → M ≤ T + W * h → r ≡ (T + W * h) % M
taken_once T W zero M r zero e l p n u o = once_more _ r M (omega arith) (omega arith)
taken_once T W zero M r (suc zero) e l p n u o = absurd (omega arith)
taken_once T W (suc zero) M r zero e l p n u o = absurd (omega arith)
taken_once T W (suc zero) M r (suc zero) e l p n u o = once_more _ r M (omega arith) (omega arith)
taken_once T W (suc (suc h)) M r b e l p n u o = absurd (omega arith)
taken_once T W h M r (suc (suc b)) e l p n u o = absurd (omega arith)

pub not_below : (r : Bool) (a b : ℕ) → r ≡ nat_lt a b → r ≡ false → b ≤ a
not_below r a b e f = grind (arith, nat_tests)

pub is_high : (T W h M : ℕ) → h ≢ 0 → M < W → M ≤ T + W * h
is_high T W h M n l = omega (arith, mul-le-mul_left {m = 1} {n = h} W (omega arith))

pub number-replicate : (n : ℕ) → number (replicate n 0) ≡ 0
unfolding number
number-replicate zero = refl
number-replicate (suc n) = rw (number-replicate n) refl

-- the lowest word
pub number_low : (xs : List ℕ) → 0 < length xs → number xs ≡ get_or xs 0 0 + 2 ^ 64 * number (drop 1 xs)
unfolding number
number_low [] h = absurd (omega arith)
number_low (x ∷ xs) h = refl

moved_words : (p N O a w : ℕ) → a + 2 ^ 64 * N ≡ O → a + 2 ^ 64 * (N + p * w) ≡ O + (2 ^ 64 * p) * w
moved_words p N O a w e = omega arith

-- one word more is moved down
pub moved_more : (xs old : List ℕ) (i a : ℕ) → i + 1 < length xs → i + 1 < length old → drop (i + 1) xs ≡ drop (i + 1) old
    → a + 2 ^ 64 * number (take i xs) ≡ number (take (i + 1) old)
    → a + 2 ^ 64 * number (take (i + 1) (set xs i (get_or xs (i + 1) 0))) ≡ number (take (i + 1 + 1) old)
moved_more xs old i a p q same e =
    rw (number_written xs i (get_or xs (i + 1) 0) (omega arith), number_more old (i + 1) q, weight_more i, at_rest xs old (i + 1) same) (moved_words (weight i) _ _ a (get_or old (i + 1) 0) e)

pub moved_none : (old : List ℕ) → 0 < length old → get_or old 0 0 + 2 ^ 64 * number [] ≡ number (take 1 old)
moved_none old h = rw (number_more old 0 h, weight_none, number_none) (omega arith)

pub moved_rest : (xs old : List ℕ) (i w : ℕ) → drop (i + 1) xs ≡ drop (i + 1) old → drop (i + 1 + 1) (set xs i w) ≡ drop (i + 1 + 1) old
moved_rest xs old i w e = drop-set-lt (i + 1 + 1) xs i w (omega arith) ∙ drop_next xs old (i + 1) e

-- and then the highest is set
pub moved_all : (xs old : List ℕ) (i j a w : ℕ) → j ≡ i → i + 1 ≡ length xs → length xs ≡ length old
    → a + 2 ^ 64 * number (take i xs) ≡ number (take (i + 1) old)
    → a + 2 ^ 64 * number (set xs j w) ≡ number old + weight (length old) * w
moved_all xs old i j a w at_last p q e =
    let s : number (set xs i w) ≡ number (take i xs) + weight i * w = sym (number_all (set xs i w) (i + 1) (rw (length-set xs i w) (omega arith))) ∙ number_written xs i w (omega arith) in
    let o : number old ≡ number (take (i + 1) old) = sym (number_all old (i + 1) (omega arith)) in
    let n : length old ≡ i + 1 = omega arith in
    rw (at_last, s, o, n, weight_more i) (moved_words (weight i) _ _ a w e)

-- what is added makes the lowest word 0
multiples : (t u s v w c j q m n y l : ℕ) → t + 2 ^ 64 * u + (2 ^ 64 * w) * c ≡ s + 2 ^ 64 * v + q * (m + 2 ^ 64 * y)
    → q + 2 ^ 64 * j ≡ s * n → m * n + 1 ≡ 2 ^ 64 * l
    → t + 2 ^ 64 * (u + w * c + j * m) ≡ 2 ^ 64 * (v + q * y + s * l)
multiples t u s v w c j q m n y l e f g = omega (arith, ap (λ (x : ℕ). x * m) f, ap (λ (x : ℕ). x * s) g)

only_multiples : (t p q : ℕ) → t < 2 ^ 64 → t + 2 ^ 64 * p ≡ 2 ^ 64 * q → t ≡ 0
only_multiples t p q h e = omega arith

less_one : (n : ℕ) → 0 < n → weight n ≡ 2 ^ 64 * weight (n - 1)
less_one n h = let e : n - 1 + 1 ≡ n = omega arith in subst (λ (k : ℕ). weight k ≡ 2 ^ 64 * weight (n - 1)) e (weight_more (n - 1))

pub lowest_none : (old xs m : List ℕ) (c n q z : ℕ) → 0 < length old → length xs ≡ length old → 0 < length m → z < 2 ^ 64 → z ≡ get_or xs 0 0
    → number xs + weight (length old) * c ≡ number old + q * number m → q ≡ (get_or old 0 0 * n) % 2 ^ 64 → (get_or m 0 0 * n + 1) % 2 ^ 64 ≡ 0
    → z ≡ 0
lowest_none old xs m c n q z h l k fits is_low e f g =
    let e' = rw (number_low xs (omega arith), number_low old h, number_low m k, less_one (length old) h, ← is_low) at e in
    let s : ℕ = get_or old 0 0 in
    let d : q + 2 ^ 64 * (s * n / 2 ^ 64) ≡ s * n = omega arith in
    let b : get_or m 0 0 * n + 1 ≡ 2 ^ 64 * ((get_or m 0 0 * n + 1) / 2 ^ 64) = omega arith in
    only_multiples z _ _ fits (multiples z _ s _ _ c (s * n / 2 ^ 64) q (get_or m 0 0) n _ _ e' d b)

divided_words : (W T0 T1 T2 T3 X M h f d c q low top z : ℕ) → T1 + W * d ≡ T0 + f * X → T2 + W * c ≡ T1 + q * M → z + 2 ^ 64 * T3 ≡ T2 + W * low → low + 2 ^ 64 * top ≡ h + d + c → z ≡ 0
    → 2 ^ 64 * (T3 + W * top) ≡ (T0 + W * h) + f * X + q * M
divided_words W T0 T1 T2 T3 X M h f d c q low top z e1 e2 e3 e4 e5 = omega (arith, ap (λ (n : ℕ). W * n) e4)

-- the product is added, then the modulus, and the lowest word, which is 0, is left out
pub divided : (t0 t1 t2 t3 x m : List ℕ) (h f d c n q low top z : ℕ) → 0 < length t0 → length t1 ≡ length t0 → length t2 ≡ length t0 → length t3 ≡ length t0 → 0 < length m → z < 2 ^ 64 → z ≡ get_or t2 0 0
    → number t1 + weight (length t0) * d ≡ number t0 + f * number x → number t2 + weight (length t1) * c ≡ number t1 + q * number m → z + 2 ^ 64 * number t3 ≡ number t2 + weight (length t2) * low → low + 2 ^ 64 * top ≡ h + d + c
    → q ≡ (get_or t1 0 0 * n) % 2 ^ 64 → (get_or m 0 0 * n + 1) % 2 ^ 64 ≡ 0
    → 2 ^ 64 * number_with t3 top ≡ number_with t0 h + f * number x + q * number m
divided t0 t1 t2 t3 x m h f d c n q low top z some l1 l2 l3 k fits is_low e1 e2 e3 e4 times inverse =
    let none = lowest_none t1 t2 m c n q z (omega arith) (omega arith) k fits is_low e2 times inverse in
    rw l3 (divided_words (weight (length t0)) _ _ _ _ _ _ h f d c q low top z e1 (rw l1 at e2) (rw l2 at e3) e4 none)

pub divided_below : (T X M R f q : ℕ) → 2 ^ 64 * R ≡ T + f * X + q * M → f < 2 ^ 64 → q < 2 ^ 64 → X < M → T < 2 * M → R < 2 * M
divided_below T X M R f q e u v x t =
    let a : f * X ≤ (2 ^ 64 - 1) * X = mul-le-mul_right X (omega arith) in
    let b : q * M ≤ (2 ^ 64 - 1) * M = mul-le-mul_right M (omega arith) in
    omega arith

more_words : (W R' R L Y M f q k : ℕ) → 2 ^ 64 * R' ≡ R + f * L + q * M → W * R ≡ L * Y + k * M → (2 ^ 64 * W) * R' ≡ L * (Y + W * f) + (k + W * q) * M
more_words W R' R L Y M f q k e g = omega (arith, ap (λ (n : ℕ). W * n) e)

pub product_more : (ys : List ℕ) (i R' R L M q k : ℕ) → i < length ys → 2 ^ 64 * R' ≡ R + get_or ys i 0 * L + q * M → weight i * R ≡ L * number (take i ys) + k * M
    → weight (i + 1) * R' ≡ L * number (take (i + 1) ys) + (k + weight i * q) * M
product_more ys i R' R L M q k h e g = rw (weight_more i, number_more ys i h) (more_words (weight i) R' R L _ M (get_or ys i 0) q k e g)

pub product_none : (T W L M : ℕ) → T ≡ 0 → weight 0 * (T + W * 0) ≡ L * number [] + 0 * M
product_none T W L M e = rw (e, number_none) (omega arith)

pub product_all : (W R L Y M k r : ℕ) → W * R ≡ L * Y + k * M → r ≡ R % M → (r * W) % M ≡ (L * Y) % M
product_all W R L Y M k r e f =
    let g : R * W ≡ L * Y + k * M = omega arith in
    rw (f, mul-mod_first R W M, g) (add-mul-mod_self_right (L * Y) k M)

-- the same, where the loop has ended
pub product_ends : (ys : List ℕ) (i n R L M k r : ℕ) → i ≡ n → length ys ≡ n → weight i * R ≡ L * number (take i ys) + k * M → r ≡ R % M → (r * weight n) % M ≡ (L * number ys) % M
product_ends ys i n R L M k r e l p f =
    let y : number (take i ys) ≡ number ys = number_all ys i (omega arith) in
    rw (← e, ← y) (product_all (weight i) R L (number (take i ys)) M k r p f)

pub reduced : (x r m : ℕ) → 0 < m → r ≡ x % m → r < m
reduced x r m h e = rw e (mod-lt x h)

pub twice_none : (a m : ℕ) → a < m → a ≡ (2 ^ 0 * a) % m
twice_none a m h = let e : 2 ^ 0 * a ≡ a = omega arith in rw e (sym (mod-eq_of_lt h))

pub twice_more : (k x a r m : ℕ) → r ≡ (2 ^ k * a) % m → x ≡ (2 * r) % m → x ≡ (2 ^ (k + 1) * a) % m
twice_more k x a r m e f =
    let g : 2 * (2 ^ k * a) ≡ 2 ^ (k + 1) * a = rw (add-one, pow-suc) (omega arith) in
    rw (f, e, mul-mod_second 2 (2 ^ k * a) m) (ap (λ (n : ℕ). n % m) g)

pub twice_all : (k n a r m : ℕ) → k ≡ n → r ≡ (2 ^ k * a) % m → r ≡ (2 ^ n * a) % m
twice_all k n a r m e f = rw (← e) f
