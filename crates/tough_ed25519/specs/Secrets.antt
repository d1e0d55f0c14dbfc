-- The key of a secret of 32 bytes, and its signatures (RFC 8032, 5.1.5 and 5.1.6).
use Rattle.std.specs.Prelude.{ℕ, ◌+◌, ◌*◌, ◌/◌, ◌%◌, ◌^◌, List, ◌++◌, take, drop}
use Rattle.sha2.specs.Sha512.{sha512}
use Rattle.tough_ed25519.specs.Bytes.{bytes_number, number_bytes}
use Rattle.tough_ed25519.specs.Order.{order}
use Rattle.tough_ed25519.specs.Curve.{base, multiple}
use Rattle.tough_ed25519.specs.Coding.{encode}
use Rattle.tough_ed25519.specs.Signatures.{challenge}

-- the lowest three bits are cleared, and so is the highest; the second highest is set (5.1.5, 2)
abbrev pub prune : ℕ → ℕ
prune n = n % 2 ^ 254 / 8 * 8 + 2 ^ 254

-- s, from the first half of the secret's hash
abbrev pub scalar_at : List ℕ → ℕ
scalar_at hash = prune (bytes_number (take 32 hash))

abbrev pub key_at : List ℕ → List ℕ
key_at hash = number_bytes 32 (encode (multiple 255 (scalar_at hash) base))

unfoldable pub key_of : List ℕ → List ℕ
key_of secret = key_at (sha512 secret)

-- r, from the second half of the secret's hash (5.1.6, 2)
abbrev pub nonce_at : List ℕ → List ℕ → ℕ
nonce_at hash message = bytes_number (sha512 (drop 32 hash ++ message)) % order

-- R (5.1.6, 3)
abbrev pub first_half : ℕ → List ℕ
first_half nonce = number_bytes 32 (encode (multiple 253 nonce base))

-- S (5.1.6, 5)
abbrev pub second_half : ℕ → ℕ → ℕ → List ℕ
second_half nonce k s = number_bytes 32 ((nonce + k * s) % order)

-- R, then S
abbrev pub signature_by : ℕ → List ℕ → ℕ → List ℕ → List ℕ → List ℕ
signature_by s key nonce message r = r ++ second_half nonce (challenge r key message) s

abbrev pub signature_at : List ℕ → List ℕ → List ℕ
signature_at hash message =
    signature_by (scalar_at hash) (key_at hash) (nonce_at hash message) message (first_half (nonce_at hash message))

unfoldable pub signature_of : List ℕ → List ℕ → List ℕ
signature_of secret message = signature_at (sha512 secret) message
