-- A power by the bits of its exponent, the highest first.
use Rattle.std.proofs.Common.{◌≡◌, ℕ, ◌+◌, ◌-◌, ◌/◌, ◌%◌, ◌^◌, ◌<◌, nat_eq, refl, arith, add-one}
use Rattle.std.proofs.lemmas.Nat.{shr-shr}
use Rattle.tough_p256.specs.Field.{power, times_if, square}

pub power_none : (n x : ℕ) → 1 ≡ power 0 n x
unfolding power
power_none n x = refl

power_suc : (k n x : ℕ) → power (k + 1) n x ≡ times_if (nat_eq (n % 2) 1) x (square (power k (n / 2) x))
unfolding power
power_suc k n x = rw add-one refl

-- one bit more of 256
pub power_more : (k n x : ℕ) → k < 256 → times_if (nat_eq (n / 2 ^ (255 - k) % 2) 1) x (square (power k (n / 2 ^ (256 - k)) x)) ≡ power (k + 1) (n / 2 ^ (256 - (k + 1))) x
power_more k n x h =
    let e : 255 - k ≡ 256 - (k + 1) = omega arith in
    let f : 256 - (k + 1) + 1 ≡ 256 - k = omega arith in
    rw (power_suc k (n / 2 ^ (256 - (k + 1))) x, shr-shr n (256 - (k + 1)) 1, f, e) refl
