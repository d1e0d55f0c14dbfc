-- HMAC over SHA-256 (RFC 2104, 2), by keys of no more bytes than a block of the hash has, which is 64.
use Rattle.std.specs.Prelude.{ℕ, ◌-◌, List, ◌++◌, length, map, replicate, bit_xor}
use Rattle.sha2.specs.Sha256.{sha256}

-- the key with zeros behind it (1), each byte xor this one (2, 5)
abbrev pub key_block : List ℕ → ℕ → List ℕ
key_block key byte = map (λ b. bit_xor b byte) (key ++ replicate (64 - length key) 0)

-- with ipad (3, 4), and with opad (6, 7)
unfoldable pub hmac : List ℕ → List ℕ → List ℕ
hmac key text = sha256 (key_block key 0x5c ++ sha256 (key_block key 0x36 ++ text))
