-- A bit of a number in words of 64 bits.
use Rattle.std.proofs.Common.{◌≡◌, ℕ, zero, suc, ◌+◌, ◌-◌, ◌*◌, ◌/◌, ◌%◌, ◌^◌, ◌<◌, List, [], ◌∷◌, get_or, refl, sym, ap, ◌∙◌, subst, arith}
use Rattle.std.proofs.Math.Nat.{add-mul-div_right, zero-div}
use Rattle.std.proofs.lemmas.Nat.{pow_pos, pow-add, shr-shr}
use Rattle.tough_modular.specs.Number.{number}

even_off : (x m : ℕ) → (x + 2 * m) % 2 ≡ x % 2
even_off x m = omega arith

split : (i j n : ℕ) → 2 ^ (j + (1 + i)) * n ≡ 2 * (2 ^ j * n) * 2 ^ i
split i j n = rw (pow-add 2 j (1 + i), pow-add 2 1 i) (omega arith)

low_of : (a n i j : ℕ) → (a + 2 ^ (j + (1 + i)) * n) / 2 ^ i % 2 ≡ a / 2 ^ i % 2
low_of a n i j = rw (split i j n, add-mul-div_right a (2 * (2 ^ j * n)) (pow_pos i)) (even_off (a / 2 ^ i) (2 ^ j * n))

low : (a n i : ℕ) → i < 64 → (a + 2 ^ 64 * n) / 2 ^ i % 2 ≡ a / 2 ^ i % 2
low a n i h =
    let e : (63 - i) + (1 + i) ≡ 64 = omega arith in
    subst (λ (k : ℕ). (a + 2 ^ k * n) / 2 ^ i % 2 ≡ a / 2 ^ i % 2) e (low_of a n i (63 - i))

high : (a n j i : ℕ) → a < 2 ^ 64 → i ≡ 64 + j → (a + 2 ^ 64 * n) / 2 ^ i ≡ n / 2 ^ j
high a n j i below h =
    let d : (a + 2 ^ 64 * n) / 2 ^ 64 ≡ n = omega arith in
    rw h (sym (shr-shr (a + 2 ^ 64 * n) 64 j) ∙ ap (λ (x : ℕ). x / 2 ^ j) d)

bit_in : (ws : List ℕ) (q r : ℕ) → ((k : ℕ) → get_or ws k 0 < 2 ^ 64) → r < 64 → number ws / 2 ^ (64 * q + r) % 2 ≡ get_or ws q 0 / 2 ^ r % 2
unfolding number
bit_in [] q r f h = rw (zero-div (2 ^ (64 * q + r)), zero-div (2 ^ r)) refl
bit_in (w ∷ ws) zero r f h = let e : 64 * 0 + r ≡ r = omega arith in rw e (low w (number ws) r h)
bit_in (w ∷ ws) (suc q) r f h =
    let e : 64 * suc q + r ≡ 64 + (64 * q + r) = omega arith in
    ap (λ (m : ℕ). m % 2) (high w (number ws) (64 * q + r) (64 * suc q + r) (f 0) e) ∙ bit_in ws q r (λ k. f (suc k)) h

pub bit_at : (ws : List ℕ) (i : ℕ) → ((k : ℕ) → get_or ws k 0 < 2 ^ 64) → get_or ws (i / 64) 0 / 2 ^ (i % 64) % 2 ≡ number ws / 2 ^ i % 2
bit_at ws i f =
    let e : 64 * (i / 64) + i % 64 ≡ i = omega arith in
    subst (λ (k : ℕ). get_or ws (i / 64) 0 / 2 ^ (i % 64) % 2 ≡ number ws / 2 ^ k % 2) e (sym (bit_in ws (i / 64) (i % 64) f (omega arith)))
