-- The field of edwards25519: numbers modulo p (RFC 8032, 5.1).
use Rattle.std.specs.Prelude.{ℕ, zero, suc, ◌+◌, ◌-◌, ◌*◌, ◌/◌, ◌%◌, ◌^◌, Bool, true, false, nat_eq}

abbrev pub prime : ℕ
prime = 2 ^ 255 - 19

unfoldable pub plus : ℕ → ℕ → ℕ
plus x y = (x + y) % prime

unfoldable pub minus : ℕ → ℕ → ℕ
minus x y = (x + (prime - y)) % prime

unfoldable pub times : ℕ → ℕ → ℕ
times x y = x * y % prime

abbrev pub square : ℕ → ℕ
square x = times x x

abbrev pub times_if : Bool → ℕ → ℕ → ℕ
times_if false x y = y
times_if true x y = times y x

-- x to the power n, of which the lowest k bits count: the square of x to the power n / 2, times x where n is odd
unfoldable pub power : ℕ → ℕ → ℕ → ℕ
power zero n x = 1
power (suc k) n x = times_if (nat_eq (n % 2) 1) x (square (power k (n / 2) x))

-- x ^ (p - 2) (RFC 8032, 5.1.1)
unfoldable pub inverse : ℕ → ℕ
inverse x = power 255 (prime - 2) x
