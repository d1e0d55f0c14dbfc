-- A multiple by the bits of its number, the highest first.
use Rattle.std.proofs.Common.{◌≡◌, ℕ, ◌+◌, ◌-◌, ◌/◌, ◌%◌, ◌^◌, ◌<◌, nat_eq, refl, arith, add-one}
use Rattle.std.proofs.lemmas.Nat.{shr-shr}
use Rattle.tough_ed25519.specs.Curve.{Coordinates, neutral, double, add_if, multiple}

pub multiple_none : (n : ℕ) (p : Coordinates) → neutral ≡ multiple 0 n p
unfolding multiple
multiple_none n p = refl

multiple_suc : (k n : ℕ) (p : Coordinates) → multiple (k + 1) n p ≡ add_if (nat_eq (n % 2) 1) p (double (multiple k (n / 2) p))
unfolding multiple
multiple_suc k n p = rw add-one refl

-- one bit more of the b lowest
pub multiple_more : (k b n : ℕ) (p : Coordinates) → k < b → add_if (nat_eq (n / 2 ^ (b - 1 - k) % 2) 1) p (double (multiple k (n / 2 ^ (b - k)) p)) ≡ multiple (k + 1) (n / 2 ^ (b - (k + 1))) p
multiple_more k b n p h =
    let e : b - 1 - k ≡ b - (k + 1) = omega arith in
    let f : b - (k + 1) + 1 ≡ b - k = omega arith in
    rw (multiple_suc k (n / 2 ^ (b - (k + 1))) p, shr-shr n (b - (k + 1)) 1, f, e) refl
