-- Numbers as bytes, the highest first.
use Rattle.std.specs.Prelude.{ℕ, zero, suc, ◌+◌, ◌*◌, ◌/◌, ◌%◌, ◌^◌, List, [], ◌∷◌, length}

-- the number of the bytes (RFC 8017, 4.2, OS2IP; SEC 1, 2.3.8)
unfoldable pub octets_number : List ℕ → ℕ
octets_number [] = 0
octets_number (b ∷ bs) = b * 256 ^ length bs + octets_number bs

-- the lowest so many bytes of the number (RFC 8017, 4.1, I2OSP; SEC 1, 2.3.7)
unfoldable pub number_octets : ℕ → ℕ → List ℕ
number_octets n zero = []
number_octets n (suc k) = (n / 256 ^ k % 256) ∷ number_octets n k
