-- A product modulo the order by the bits of a factor, the highest first.
use Rattle.std.proofs.Common.{◌≡◌, ℕ, zero, suc, ◌+◌, ◌-◌, ◌*◌, ◌/◌, ◌%◌, ◌^◌, ◌<◌, ◌≤◌, cond, nat_eq, sym, ap, ◌∙◌, subst, arith}
use Rattle.std.proofs.lemmas.Nat.{shr-shr}
use Rattle.tough_ed25519.specs.Order.{order}

bit_times : (r f : ℕ) → r < 2 → cond (nat_eq r 1) f 0 ≡ r * f
bit_times zero f h = omega arith
bit_times (suc zero) f h = omega arith
bit_times (suc (suc r)) f h = absurd (omega arith)

twice_more : (q f h r : ℕ) → q ≡ 2 * h + r → (2 * ((f * h) % order) + r * f) % order ≡ (f * q) % order
twice_more q f h r e = rw e (omega arith)

bit_more : (q f x : ℕ) → x ≡ (f * (q / 2)) % order → (2 * x + cond (nat_eq (q % 2) 1) f 0) % order ≡ (f * q) % order
bit_more q f x e = rw (e, bit_times (q % 2) f (omega arith)) (twice_more q f (q / 2) (q % 2) (omega arith))

-- one bit more of a number of 256 bits
pub product_more : (n f x k : ℕ) → k < 256 → x ≡ (f * (n / 2 ^ (256 - k))) % order → (2 * x + cond (nat_eq (n / 2 ^ (255 - k) % 2) 1) f 0) % order ≡ (f * (n / 2 ^ (256 - (k + 1)))) % order
product_more n f x k h e =
    let p : 255 - k ≡ 256 - (k + 1) = omega arith in
    let q : 256 - (k + 1) + 1 ≡ 256 - k = omega arith in
    let d : n / 2 ^ (256 - (k + 1)) / 2 ≡ n / 2 ^ (256 - k) = shr-shr n (256 - (k + 1)) 1 ∙ ap (λ (i : ℕ). n / 2 ^ i) q in
    let g : x ≡ (f * (n / 2 ^ (256 - (k + 1)) / 2)) % order = e ∙ ap (λ (m : ℕ). (f * m) % order) (sym d) in
    rw p (bit_more (n / 2 ^ (256 - (k + 1))) f x g)

pub product_none : (n f : ℕ) → n < 2 ^ 256 → 0 ≡ (f * (n / 2 ^ 256)) % order
product_none n f h = let e : n / 2 ^ 256 ≡ 0 = omega arith in rw e (omega arith)

pub product_all : (n f k : ℕ) → 256 ≤ k → (f * (n / 2 ^ (256 - k))) % order ≡ (f * n) % order
product_all n f k h =
    let e : 0 ≡ 256 - k = omega arith in
    subst (λ (i : ℕ). (f * (n / 2 ^ i)) % order ≡ (f * n) % order) e (ap (λ (m : ℕ). (f * m) % order) (whole n))
  where
    whole : (n : ℕ) → n / 2 ^ 0 ≡ n
    whole n = omega arith
