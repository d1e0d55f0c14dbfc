-- Which signatures verify (RFC 8032, 5.1.7).
use Rattle.std.specs.Prelude.{ℕ, ◌%◌, Bool, ◌&&◌, nat_eq, List, ◌++◌, length, take, drop}
use Rattle.sha2.specs.Sha512.{sha512}
use Rattle.tough_ed25519.specs.Bytes.{bytes_number}
use Rattle.tough_ed25519.specs.Order.{order}
use Rattle.tough_ed25519.specs.Check.{checks}

-- k: the hash of R, the key and the message, modulo L
abbrev pub challenge : List ℕ → List ℕ → List ℕ → ℕ
challenge r key message = bytes_number (sha512 (r ++ key ++ message)) % order

abbrev pub halves_match : List ℕ → List ℕ → List ℕ → List ℕ → Bool
halves_match key message r s =
    checks (bytes_number key) (bytes_number r) (bytes_number s) (challenge r key message)

-- a key has 32 bytes, and a signature 64: R, then S
unfoldable pub is_signature : List ℕ → List ℕ → List ℕ → Bool
is_signature key message signature =
    nat_eq (length key) 32 && nat_eq (length signature) 64 && halves_match key message (take 32 signature) (drop 32 signature)
