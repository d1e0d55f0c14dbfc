-- A bit of a number in words of 64 bits.
use Rattle.std.proofs.Common.{◌≡◌, ℕ, ◌+◌, ◌-◌, ◌*◌, ◌/◌, ◌%◌, ◌^◌, ◌<◌, ◌≤◌, sym, ap, ◌∙◌, subst, arith}
use Rattle.std.proofs.Math.Nat.{add-mul-div_right}
use Rattle.std.proofs.lemmas.Nat.{pow_pos, pow-add, shr-shr}

even_off : (x m : ℕ) → (x + 2 * m) % 2 ≡ x % 2
even_off x m = omega arith

split : (i j n : ℕ) → 2 ^ (j + (1 + i)) * n ≡ 2 * (2 ^ j * n) * 2 ^ i
split i j n = rw (pow-add 2 j (1 + i), pow-add 2 1 i) (omega arith)

low_of : (a n i j : ℕ) → (a + 2 ^ (j + (1 + i)) * n) / 2 ^ i % 2 ≡ a / 2 ^ i % 2
low_of a n i j = rw (split i j n, add-mul-div_right a (2 * (2 ^ j * n)) (pow_pos i)) (even_off (a / 2 ^ i) (2 ^ j * n))

pub low : (a n i : ℕ) → i < 64 → (a + 2 ^ 64 * n) / 2 ^ i % 2 ≡ a / 2 ^ i % 2
low a n i h =
    let e : (63 - i) + (1 + i) ≡ 64 = omega arith in
    subst (λ (k : ℕ). (a + 2 ^ k * n) / 2 ^ i % 2 ≡ a / 2 ^ i % 2) e (low_of a n i (63 - i))

pub high : (a n i : ℕ) → a < 2 ^ 64 → 64 ≤ i → (a + 2 ^ 64 * n) / 2 ^ i ≡ n / 2 ^ (i - 64)
high a n i below h =
    let e : 64 + (i - 64) ≡ i = omega arith in
    let d : (a + 2 ^ 64 * n) / 2 ^ 64 ≡ n = omega arith in
    subst (λ (k : ℕ). (a + 2 ^ 64 * n) / 2 ^ k ≡ n / 2 ^ (i - 64)) e (sym (shr-shr (a + 2 ^ 64 * n) 64 (i - 64)) ∙ ap (λ (x : ℕ). x / 2 ^ (i - 64)) d)

again : (i : ℕ) → 64 ≤ i → (a b n : ℕ) → a < 2 ^ 64 → (x : ℕ) → (b + 2 ^ 64 * n) / 2 ^ (i - 64) % 2 ≡ x → (a + 2 ^ 64 * (b + 2 ^ 64 * n)) / 2 ^ i % 2 ≡ x
again i h a b n below x e = ap (λ (m : ℕ). m % 2) (high a (b + 2 ^ 64 * n) i below h) ∙ e

pub low_2 : (a b n i : ℕ) → a < 2 ^ 64 → 64 ≤ i → i < 128 → (a + 2 ^ 64 * (b + 2 ^ 64 * n)) / 2 ^ i % 2 ≡ b / 2 ^ (i - 64) % 2
low_2 a b n i A p q = again i p a b n A _ (low b n (i - 64) (omega arith))

earlier : (i j k : ℕ) → j ≡ k → (b : ℕ) → b / 2 ^ j % 2 ≡ b / 2 ^ k % 2
earlier i j k e b = ap (λ (m : ℕ). b / 2 ^ m % 2) e

pub low_3 : (a b c d i : ℕ) → a < 2 ^ 64 → b < 2 ^ 64 → 128 ≤ i → i < 192 → (a + 2 ^ 64 * (b + 2 ^ 64 * (c + 2 ^ 64 * d))) / 2 ^ i % 2 ≡ c / 2 ^ (i - 128) % 2
low_3 a b c d i A B p q = again i (omega arith) a b (c + 2 ^ 64 * d) A _ (low_2 b c d (i - 64) B (omega arith) (omega arith) ∙ earlier i (i - 64 - 64) (i - 128) (omega arith) c)

last : (i : ℕ) (a d : ℕ) → a < 2 ^ 64 → 64 ≤ i → (a + 2 ^ 64 * d) / 2 ^ i % 2 ≡ d / 2 ^ (i - 64) % 2
last i a d below h = ap (λ (m : ℕ). m % 2) (high a d i below h)

pub low_4 : (a b c d i : ℕ) → a < 2 ^ 64 → b < 2 ^ 64 → c < 2 ^ 64 → 192 ≤ i → (a + 2 ^ 64 * (b + 2 ^ 64 * (c + 2 ^ 64 * d))) / 2 ^ i % 2 ≡ d / 2 ^ (i - 192) % 2
low_4 a b c d i A B C p =
    again i (omega arith) a b (c + 2 ^ 64 * d) A _ (again (i - 64) (omega arith) b c d B _ (last (i - 64 - 64) c d C (omega arith) ∙ earlier i (i - 64 - 64 - 64) (i - 192) (omega arith) d))
