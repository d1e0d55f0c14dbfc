-- Which signatures verify (FIPS 186-5, 6.4.2).
use Rattle.std.specs.Prelude.{ℕ, ◌+◌, ◌%◌, Bool, not, ◌&&◌, ◌||◌, nat_eq, nat_lt, List, length, slice_index, take, drop}
use Rattle.sha2.specs.Sha256.{sha256}
use Rattle.tough_p256.specs.Field.{prime, times}
use Rattle.tough_p256.specs.Order.{order, product, inverse}
use Rattle.tough_p256.specs.Curve.{Coordinates, affine, base, is_on_curve, add, multiple}
use Rattle.tough_modular.specs.Octets.{octets_number}

-- the coordinates of a point of the curve
abbrev pub is_key : ℕ → ℕ → Bool
is_key x y = nat_lt x prime && nat_lt y prime && is_on_curve x y

-- 1: a number in [1, n - 1]
abbrev pub is_scalar : ℕ → Bool
is_scalar v = nat_lt 0 v && nat_lt v order

-- 2 and 3: e, of which the remainder counts
abbrev pub message_number : List ℕ → ℕ
message_number message = octets_number (sha256 message) % order

-- 5 to 7: [e / s]G + [r / s]Q, with w for 1 / s
abbrev pub sum_by : ℕ → ℕ → ℕ → ℕ → ℕ → Coordinates
sum_by x y e r w = add (multiple 256 (product e w) base) (multiple 256 (product r w) (affine x y))

-- 4
abbrev pub meeting : ℕ → ℕ → List ℕ → ℕ → ℕ → Coordinates
meeting x y message r s = sum_by x y (message_number message) r (inverse s)

-- 8 to 10: the first coordinate, x / z, is v or v + n, of which the remainder modulo n is v
unfoldable pub has_x : Coordinates → ℕ → Bool
has_x p v =
    not (nat_eq p.z 0) && (nat_eq (times v p.z) p.x || (nat_lt (v + order) prime && nat_eq (times (v + order) p.z) p.x))

-- of the coordinates of the key, the message, and the two halves of the signature
unfoldable pub ecdsa_verifies : ℕ → ℕ → List ℕ → ℕ → ℕ → Bool
ecdsa_verifies x y message r s =
    is_key x y && is_scalar r && is_scalar s && has_x (meeting x y message r s) r

-- of the key in 65 bytes, uncompressed (SEC 1, 2.3.3), the message, and the halves of the signature as bytes
unfoldable pub is_signature : List ℕ → List ℕ → List ℕ → List ℕ → Bool
is_signature key message r s =
    nat_eq (length key) 65 && nat_eq (slice_index key 0) 4
    && ecdsa_verifies (octets_number (take 32 (drop 1 key))) (octets_number (take 32 (drop 33 key))) message (octets_number r) (octets_number s)
