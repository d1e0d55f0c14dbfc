-- The step of each loop over words.
use Rattle.std.proofs.Common.{◌≡◌, ℕ, ◌+◌, ◌*◌, ◌^◌, ◌<◌, Bool, ⊎_elim, cond, nat_eq, nat_lt, List, length, get_or, take, drop, set, ap, arith, Fits, w64}
use Rattle.tough_modular.specs.Number.{number, weight}
use Rattle.tough_modular.proofs.Numbers.{number_more, number_written, weight_more, at_rest, number_below}
use Rattle.std.proofs.Math.Nat.{mul-le-mul_left}
use Rattle.std.proofs.lemmas.Bool.{cases_order}
use Rattle.std.proofs.lemmas.Bool.Decides.{nat_tests}

add_words : (p N O X c d a x f w : ℕ) → N + p * c ≡ O + f * X → w + 2 ^ 64 * d ≡ a + x * f + c → (N + p * w) + (2 ^ 64 * p) * d ≡ (O + p * a) + f * (X + p * x)
add_words p N O X c d a x f w e h = omega (arith, ap (λ (n : ℕ). p * n) h)

pub add_more : (xs old ys : List ℕ) (i c d f w : ℕ) → i < length xs → i < length old → i < length ys → drop i xs ≡ drop i old
    → number (take i xs) + weight i * c ≡ number (take i old) + f * number (take i ys)
    → w + 2 ^ 64 * d ≡ get_or xs i 0 + get_or ys i 0 * f + c
    → number (take (i + 1) (set xs i w)) + weight (i + 1) * d ≡ number (take (i + 1) old) + f * number (take (i + 1) ys)
add_more xs old ys i c d f w p q r same e h =
    rw (number_written xs i w p, weight_more i, number_more old i q, number_more ys i r)
    (add_words (weight i) _ _ _ c d (get_or old i 0) (get_or ys i 0) f w e (rw (at_rest xs old i same) at h))

sub_words : (p N O X c d a x w : ℕ) → N + X ≡ O + p * c → w + x + c ≡ a + 2 ^ 64 * d → (N + p * w) + (X + p * x) ≡ (O + p * a) + (2 ^ 64 * p) * d
sub_words p N O X c d a x w e h = omega (arith, ap (λ (n : ℕ). p * n) h)

pub sub_more : (xs old ys : List ℕ) (i c d w : ℕ) → i < length xs → i < length old → i < length ys → drop i xs ≡ drop i old
    → number (take i xs) + number (take i ys) ≡ number (take i old) + weight i * c
    → w + get_or ys i 0 + c ≡ get_or xs i 0 + 2 ^ 64 * d
    → number (take (i + 1) (set xs i w)) + number (take (i + 1) ys) ≡ number (take (i + 1) old) + weight (i + 1) * d
sub_more xs old ys i c d w p q r same e h =
    rw (number_written xs i w p, weight_more i, number_more old i q, number_more ys i r)
    (sub_words (weight i) _ _ _ c d (get_or old i 0) (get_or ys i 0) w e (rw (at_rest xs old i same) at h))

double_words : (p N O c d a w : ℕ) → N + p * c ≡ 2 * O → w + 2 ^ 64 * d ≡ 2 * a + c → (N + p * w) + (2 ^ 64 * p) * d ≡ 2 * (O + p * a)
double_words p N O c d a w e h = omega (arith, ap (λ (n : ℕ). p * n) h)

pub double_more : (xs old : List ℕ) (i c d w : ℕ) → i < length xs → i < length old → drop i xs ≡ drop i old
    → number (take i xs) + weight i * c ≡ 2 * number (take i old)
    → w + 2 ^ 64 * d ≡ 2 * get_or xs i 0 + c
    → number (take (i + 1) (set xs i w)) + weight (i + 1) * d ≡ 2 * number (take (i + 1) old)
double_more xs old i c d w p q same e h =
    rw (number_written xs i w p, weight_more i, number_more old i q)
    (double_words (weight i) _ _ c d (get_or old i 0) w e (rw (at_rest xs old i same) at h))

-- as the numbers, where one word more is known of each
below_words : (p N O a b : ℕ) → N < p → O < p → nat_lt (N + p * a) (O + p * b) ≡ cond (nat_eq a b) (nat_lt N O) (nat_lt a b)
below_words p N O a b h k = ⊎_elim (same p N O a b h k) (⊎_elim (less p N O a b h k) (more p N O a b h k)) (cases_order a b)
  where
    same : (p N O a b : ℕ) → N < p → O < p → a ≡ b → nat_lt (N + p * a) (O + p * b) ≡ cond (nat_eq a b) (nat_lt N O) (nat_lt a b)
    same p N O a b h k e = rw e (grind (arith, nat_tests))

    less : (p N O a b : ℕ) → N < p → O < p → a < b → nat_lt (N + p * a) (O + p * b) ≡ cond (nat_eq a b) (nat_lt N O) (nat_lt a b)
    less p N O a b h k l =
        let m : N + p * a < O + p * b = omega (arith, mul-le-mul_left {m = a + 1} {n = b} p (omega arith)) in
        grind (arith, nat_tests)

    more : (p N O a b : ℕ) → N < p → O < p → b < a → nat_lt (N + p * a) (O + p * b) ≡ cond (nat_eq a b) (nat_lt N O) (nat_lt a b)
    more p N O a b h k l =
        let m : O + p * b < N + p * a = omega (arith, mul-le-mul_left {m = b + 1} {n = a} p (omega arith)) in
        grind (arith, nat_tests)

pub below_more : (xs ys : List ℕ) (i : ℕ) (r s : Bool) → ((k : ℕ) → Fits w64 (get_or xs k 0)) → ((k : ℕ) → Fits w64 (get_or ys k 0)) → i < length xs → i < length ys
    → r ≡ nat_lt (number (take i xs)) (number (take i ys))
    → s ≡ cond (nat_eq (get_or xs i 0) (get_or ys i 0)) r (nat_lt (get_or xs i 0) (get_or ys i 0))
    → s ≡ nat_lt (number (take (i + 1) xs)) (number (take (i + 1) ys))
below_more xs ys i r s x y p q e f =
    rw (number_more xs i p, number_more ys i q, below_words (weight i) _ _ (get_or xs i 0) (get_or ys i 0) (number_below xs x i (omega arith)) (number_below ys y i (omega arith)), ← e) f
