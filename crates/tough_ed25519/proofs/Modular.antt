-- Sums, differences and products of numbers that stand modulo the prime.
use Rattle.std.proofs.Common.{◌≡◌, ℕ, ◌+◌, ◌*◌, ◌%◌, sym, arith}
use Rattle.std.proofs.lemmas.Nat.{mul-mod}
use Rattle.tough_ed25519.specs.Field.{prime, plus, minus, times}

pub plus_of : (x y : ℕ) → plus (x % prime) (y % prime) ≡ (x + y) % prime
unfolding plus
plus_of x y = omega arith

-- z is x - y, and some times the prime
pub minus_of : (x y z : ℕ) → z + y ≡ x + 4 * prime → minus (x % prime) (y % prime) ≡ z % prime
unfolding minus
minus_of x y z e = omega arith

pub times_of : (x y : ℕ) → times (x % prime) (y % prime) ≡ (x * y) % prime
unfolding times
times_of x y = sym (mul-mod x y prime)
