-- A power by the bits of its exponent, the highest first.
use Rattle.std.proofs.Common.{◌≡◌, ℕ, ◌+◌, ◌-◌, ◌/◌, ◌%◌, ◌^◌, ◌<◌, nat_eq, refl, arith, add-one}
use Rattle.std.proofs.lemmas.Nat.{shr-shr}
use Rattle.tough_ed25519.specs.Field.{power, times_if, square}

pub power_none : (n x : ℕ) → 1 ≡ power 0 n x
unfolding power
power_none n x = refl

power_suc : (k n x : ℕ) → power (k + 1) n x ≡ times_if (nat_eq (n % 2) 1) x (square (power k (n / 2) x))
unfolding power
power_suc k n x = rw add-one refl

-- one bit more of the b lowest
pub power_more : (k b n x : ℕ) → k < b → times_if (nat_eq (n / 2 ^ (b - 1 - k) % 2) 1) x (square (power k (n / 2 ^ (b - k)) x)) ≡ power (k + 1) (n / 2 ^ (b - (k + 1))) x
power_more k b n x h =
    let e : b - 1 - k ≡ b - (k + 1) = omega arith in
    let f : b - (k + 1) + 1 ≡ b - k = omega arith in
    rw (power_suc k (n / 2 ^ (b - (k + 1))) x, shr-shr n (b - (k + 1)) 1, f, e) refl
