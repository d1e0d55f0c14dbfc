-- Signatures by a secret of 32 bytes, the highest first (FIPS 186-5, 6.4.1), with the nonce of RFC 6979.
use Rattle.std.specs.Prelude.{ℕ, zero, suc, ◌%◌, Bool, ◌&&◌, if◌then◌else◌, Option, Some, None, List, [], ◌∷◌, ◌++◌}
use Rattle.tough_modular.specs.Octets.{octets_number, number_octets}
use Rattle.tough_p256.specs.Order.{order, sum, product, inverse}
use Rattle.tough_p256.specs.Curve.{Coordinates, base, multiple, affine_x, affine_y}
use Rattle.tough_p256.specs.Ecdsa.{is_scalar, message_number, is_signature}
use Rattle.tough_p256.specs.Nonces.{Generator, generator, next, reseeded, candidate}

-- d is in [1, n - 1] (6.2)
abbrev pub is_secret : List ℕ → Bool
is_secret secret = is_scalar (octets_number secret)

-- the two coordinates in 32 bytes each
abbrev pub point_octets : Coordinates → List ℕ
point_octets p = number_octets (affine_x p) 32 ++ number_octets (affine_y p) 32

-- Q = [d]G (6.2)
abbrev pub key_at : List ℕ → List ℕ
key_at secret = point_octets (multiple 256 (octets_number secret) base)

unfoldable pub public_key : List ℕ → Option (List ℕ)
public_key secret = if is_secret secret then Some (key_at secret) else None

-- r and s in 32 bytes each
abbrev pub Halves : Type 0
Halves = List ℕ × List ℕ

-- r: the first coordinate of [k]G modulo n
abbrev pub first_half : ℕ → ℕ
first_half k = affine_x (multiple 256 k base) % order

-- s = (e + r * d) / k modulo n
abbrev pub second_half : ℕ → ℕ → ℕ → ℕ → ℕ
second_half d e k r = product (inverse k) (sum e (product r d))

-- none where one of them is 0
abbrev pub halves : ℕ → ℕ → Option Halves
halves r s = if is_scalar r && is_scalar s then Some (number_octets r 32, number_octets s 32) else None

-- none where k isn't in [1, n - 1]
abbrev pub halves_by : ℕ → ℕ → ℕ → Option Halves
halves_by d e k = if is_scalar k then halves (first_half k) (second_half d e k (first_half k)) else None

abbrev pub or_else : Option Halves → Option Halves → Option Halves
or_else None o = o
or_else (Some h) o = Some h

-- by the first candidate of so many that gives some (RFC 6979, 3.2, h)
unfoldable pub halves_from : ℕ → ℕ → ℕ → Generator → Option Halves
halves_from zero d e g = None
halves_from (suc tries) d e g = or_else (halves_by d e (candidate (next g))) (halves_from tries d e (reseeded (next g) (0 ∷ [])))

-- of the secret and e, with 16 candidates
abbrev pub halves_of : List ℕ → ℕ → Option Halves
halves_of secret e = halves_from 16 (octets_number secret) e (generator secret (number_octets e 32))

-- none that doesn't verify by the key, in its two coordinates
abbrev pub if_verifies : List ℕ → List ℕ → Option Halves → Option Halves
if_verifies key message None = None
if_verifies key message (Some h) = if is_signature (4 ∷ key) message h.0 h.1 then Some h else None

unfoldable pub ecdsa_signature : List ℕ → List ℕ → Option Halves
ecdsa_signature secret message =
    if is_secret secret then if_verifies (key_at secret) message (halves_of secret (message_number message)) else None
