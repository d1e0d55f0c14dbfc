-- How keys and signatures are read.
use Rattle.std.specs.Prelude.{◌≡◌, length, ℕ, List, [], ◌∷◌, ◌++◌, Option, Some, option_map}
use Rattle.std.specs.Int.{w64, from_be_bytes}
use Rattle.std.specs.Borrow.{Bor}
use Rattle.tough_der.specs.Der.{der_sequence, der_oid, der_null, rsa_encryption, pkcs8_p256}
use Rattle.tough_der.specs.Reading.{◌>>=◌, split, element, whole, after, of_length, magnitude, wide}

-- the numbers of a key, with the bytes behind the reference
abbrev pub key_view : Option (Bor (List ℕ) × ℕ) → Option (List ℕ × ℕ)
key_view r = option_map (λ k. (k.0.now, k.1)) r

-- ---- signatures

-- the two halves in 32 bytes each
unfoldable pub signature_of : List ℕ → Option (List ℕ × List ℕ)
signature_of bs = do
  halves ← whole 0x30 bs
  first ← element 2 halves
  second ← whole 2 first.1
  r ← wide 32 first.0
  s ← wide 32 second
  Some (r, s)

-- ---- RSA

-- the modulus and the exponent
unfoldable pub rsa_numbers : List ℕ → Option (List ℕ × ℕ)
rsa_numbers bs = do
  numbers ← whole 0x30 bs
  first ← element 2 numbers
  second ← whole 2 first.1
  n ← magnitude first.0
  e ← wide 8 second
  Some (n, from_be_bytes w64 e)

-- what follows `rsaEncryption` without parameters
unfoldable pub after_rsa : List ℕ → Option (List ℕ)
after_rsa bs = after (der_sequence (der_oid rsa_encryption ++ der_null)) bs

unfoldable pub rsa_key_of : List ℕ → Option (List ℕ × ℕ)
rsa_key_of bs = do
  parts ← whole 0x30 bs
  key ← after_rsa parts
  bits ← whole 3 key
  numbers ← after (0 ∷ []) bits
  rsa_numbers numbers

-- ---- what stands before the point, the key or the secret

abbrev pub p256_front : List ℕ
p256_front =
    0x30 ∷ 0x59 ∷ 0x30 ∷ 0x13 ∷ 0x06 ∷ 0x07 ∷ 0x2a ∷ 0x86 ∷ 0x48 ∷ 0xce ∷ 0x3d ∷ 0x02 ∷ 0x01
    ∷ 0x06 ∷ 0x08 ∷ 0x2a ∷ 0x86 ∷ 0x48 ∷ 0xce ∷ 0x3d ∷ 0x03 ∷ 0x01 ∷ 0x07 ∷ 0x03 ∷ 0x42 ∷ 0x00 ∷ []

abbrev pub ed25519_front : List ℕ
ed25519_front = 0x30 ∷ 0x2a ∷ 0x30 ∷ 0x05 ∷ 0x06 ∷ 0x03 ∷ 0x2b ∷ 0x65 ∷ 0x70 ∷ 0x03 ∷ 0x21 ∷ 0x00 ∷ []

abbrev pub ed25519_secret_front : List ℕ
ed25519_secret_front =
    0x30 ∷ 0x2e ∷ 0x02 ∷ 0x01 ∷ 0x00 ∷ 0x30 ∷ 0x05 ∷ 0x06 ∷ 0x03 ∷ 0x2b ∷ 0x65 ∷ 0x70 ∷ 0x04 ∷ 0x22 ∷ 0x04 ∷ 0x20 ∷ []

abbrev pub p256_secret_front : List ℕ
p256_secret_front =
    0x30 ∷ 0x81 ∷ 0x87 ∷ 0x02 ∷ 0x01 ∷ 0x00 ∷ 0x30 ∷ 0x13 ∷ 0x06 ∷ 0x07 ∷ 0x2a ∷ 0x86 ∷ 0x48 ∷ 0xce ∷ 0x3d ∷ 0x02 ∷ 0x01
    ∷ 0x06 ∷ 0x08 ∷ 0x2a ∷ 0x86 ∷ 0x48 ∷ 0xce ∷ 0x3d ∷ 0x03 ∷ 0x01 ∷ 0x07 ∷ 0x04 ∷ 0x6d ∷ 0x30 ∷ 0x6b ∷ 0x02 ∷ 0x01 ∷ 0x01
    ∷ 0x04 ∷ 0x20 ∷ []

abbrev pub p256_point_front : List ℕ
p256_point_front = 0xa1 ∷ 0x44 ∷ 0x03 ∷ 0x42 ∷ 0x00 ∷ []

unfoldable pub p256_key_of : List ℕ → Option (List ℕ)
p256_key_of bs = after p256_front bs >>= of_length 65

unfoldable pub ed25519_key_of : List ℕ → Option (List ℕ)
ed25519_key_of bs = after ed25519_front bs >>= of_length 32

unfoldable pub ed25519_secret_of : List ℕ → Option (List ℕ)
ed25519_secret_of bs = after ed25519_secret_front bs >>= of_length 32

-- the secret and the point
unfoldable pub p256_secret_of : List ℕ → Option (List ℕ × List ℕ)
p256_secret_of bs = do
  rest ← after p256_secret_front bs
  halves ← split 32 rest
  point ← after p256_point_front halves.1
  whole ← of_length 65 point
  Some (halves.0, whole)

-- the bytes are the encoding of the secret and the point
abbrev pub IsP256Secret : List ℕ → List ℕ → List ℕ → Type 0
IsP256Secret bs s p = (bs ≡ pkcs8_p256 s p) × ((length s ≡ 32) × (length p ≡ 65))
