-- RSASSA-PSS-VERIFY (RFC 8017, 8.1.2), for a key of 2,048 to 8,192 bits.
use Rattle.std.specs.Prelude.{ℕ, ◌+◌, ◌-◌, ◌*◌, ◌/◌, ◌%◌, ◌^◌, Bool, ◌&&◌, nat_eq, nat_lt, nat_le, List, length, slice_index}
use Rattle.std.specs.Int.Count.{count_leading_zeros}
use Rattle.tough_modular.specs.Octets.{octets_number, number_octets}
use Rattle.tough_rsa.specs.Pss.{emsa_pss_verify}

-- the bits of the number of bytes of which the first is not 0
abbrev pub bits_of : List ℕ → ℕ
bits_of n = 8 * length n - count_leading_zeros 8 (slice_index n 0)

-- the number of bytes that so many bits need
abbrev pub bytes_for : ℕ → ℕ
bytes_for bits = (bits + 7) / 8

-- n is odd, and has 256 to 1,024 bytes and 2,048 bits or more, so 8,192 or fewer
unfoldable pub is_modulus : List ℕ → Bool
is_modulus n =
    nat_le 256 (length n) && nat_le (length n) 1024 && nat_lt 0 (slice_index n 0) && nat_le 2048 (bits_of n)
    && nat_eq (slice_index n (length n - 1) % 2) 1

-- the exponents that the original's library takes
unfoldable pub is_exponent : ℕ → Bool
is_exponent e = nat_eq (e % 2) 1 && nat_le 65537 e && nat_lt e (2 ^ 33)

-- RSAVP1 (5.2.2): s ^ e mod n
abbrev pub rsavp1 : List ℕ → ℕ → List ℕ → ℕ
rsavp1 n e signature = octets_number signature ^ e % octets_number n

-- EM is m as so many bytes, where it is not too large (2, c)
unfoldable pub is_encoding : List ℕ → ℕ → ℕ → Bool
is_encoding message m bits =
    nat_lt m (256 ^ bytes_for bits) && emsa_pss_verify message (number_octets m (bytes_for bits)) bits

-- s is below n, and m is an encoding of the message in one bit less than n has
unfoldable pub is_root : List ℕ → ℕ → List ℕ → List ℕ → Bool
is_root n e message signature =
    nat_lt (octets_number signature) (octets_number n) && is_encoding message (rsavp1 n e signature) (bits_of n - 1)

unfoldable pub rsa_verifies : List ℕ → ℕ → List ℕ → List ℕ → Bool
rsa_verifies n e message signature =
    is_modulus n && is_exponent e && nat_eq (length signature) (length n) && is_root n e message signature
