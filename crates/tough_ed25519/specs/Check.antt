-- The check of a signature on numbers (RFC 8032, 5.1.7, without the cofactor, which that section leaves open).
use Rattle.std.specs.Prelude.{ℕ, Bool, false, ◌&&◌, nat_eq, nat_lt, Option, Some, None}
use Rattle.tough_ed25519.specs.Order.{order}
use Rattle.tough_ed25519.specs.Curve.{Coordinates, base, opposite, add, multiple}
use Rattle.tough_ed25519.specs.Coding.{encode, decode}

-- S is below L, and [S]B - [k]A is what R encodes; no key, no signature
abbrev pub matches : ℕ → ℕ → ℕ → Option Coordinates → Bool
matches r s k None = false
matches r s k (Some a) =
    nat_lt s order && nat_eq (encode (add (multiple 253 s base) (multiple 253 k (opposite a)))) r

-- of the numbers of the key and of the two halves of the signature, and the hash modulo L
unfoldable pub checks : ℕ → ℕ → ℕ → ℕ → Bool
checks a r s k = matches r s k (decode a)
