-- Distinguished encodings (X.690, 8 and 10), as functions from values to bytes.
use Rattle.std.specs.Prelude.{ℕ, ◌+◌, ◌*◌, ◌/◌, ◌%◌, ◌&&◌, nat_lt, nat_eq, if◌then◌else◌, List, [], ◌∷◌, ◌++◌, length}
use Rattle.std.specs.Int.{w64, to_be_bytes}

-- the length octets in the shortest form (8.1.3 and 10.1), of contents of fewer than 2^32 bytes
unfoldable pub length_octets : ℕ → List ℕ
length_octets n =
    if nat_lt n 128 then n ∷ []
    else (if nat_lt n 256 then 0x81 ∷ n ∷ []
    else (if nat_lt n 65536 then 0x82 ∷ (n / 256) ∷ (n % 256) ∷ []
    else (if nat_lt n 16777216 then 0x83 ∷ (n / 65536) ∷ (n / 256 % 256) ∷ (n % 256) ∷ []
    else 0x84 ∷ (n / 16777216) ∷ (n / 65536 % 256) ∷ (n / 256 % 256) ∷ (n % 256) ∷ [])))

-- a tag, a length and contents (8.1.1)
abbrev pub der : ℕ → List ℕ → List ℕ
der tag content = tag ∷ (length_octets (length content) ++ content)

abbrev pub der_sequence : List ℕ → List ℕ
der_sequence content = der 0x30 content

-- without the zeros in front that the sign does without: the first nine bits aren't all alike (8.3.2)
unfoldable pub shorten : List ℕ → List ℕ
shorten [] = []
shorten (b ∷ []) = b ∷ []
shorten (b ∷ c ∷ cs) = if nat_eq b 0 && nat_lt c 128 then shorten (c ∷ cs) else b ∷ c ∷ cs

-- the integer whose bytes, the highest first, are these, and which is not negative (8.3)
abbrev pub der_integer : List ℕ → List ℕ
der_integer bytes = der 2 (shorten (0 ∷ bytes))

-- a bit string of whole bytes (8.6)
abbrev pub der_bit_string : List ℕ → List ℕ
der_bit_string bytes = der 3 (0 ∷ bytes)

-- (8.7)
abbrev pub der_octet_string : List ℕ → List ℕ
der_octet_string bytes = der 4 bytes

-- (8.8)
abbrev pub der_null : List ℕ
der_null = der 5 []

-- the contents are an identifier's (8.19)
abbrev pub der_oid : List ℕ → List ℕ
der_oid content = der 6 content

-- the element with this explicit tag (8.14)
abbrev pub der_explicit : ℕ → List ℕ → List ℕ
der_explicit number content = der (0xa0 + number) content

-- ---- identifiers

-- 1.2.840.113549.1.1.1 (RFC 3279, 2.3.1)
abbrev pub rsa_encryption : List ℕ
rsa_encryption =
    (40 * 1 + 2) ∷ (128 + 840 / 128) ∷ (840 % 128) ∷ (128 + 113549 / 16384) ∷ (128 + 113549 / 128 % 128)
    ∷ (113549 % 128) ∷ 1 ∷ 1 ∷ 1 ∷ []

-- 1.2.840.10045.2.1 (RFC 5480, 2.1.1)
abbrev pub id_ec_public_key : List ℕ
id_ec_public_key = (40 * 1 + 2) ∷ (128 + 840 / 128) ∷ (840 % 128) ∷ (128 + 10045 / 128) ∷ (10045 % 128) ∷ 2 ∷ 1 ∷ []

-- 1.2.840.10045.3.1.7 (RFC 5480, 2.1.1.1)
abbrev pub secp256r1 : List ℕ
secp256r1 = (40 * 1 + 2) ∷ (128 + 840 / 128) ∷ (840 % 128) ∷ (128 + 10045 / 128) ∷ (10045 % 128) ∷ 3 ∷ 1 ∷ 7 ∷ []

-- 1.3.101.112 (RFC 8410, 3)
abbrev pub id_ed25519 : List ℕ
id_ed25519 = (40 * 1 + 3) ∷ 101 ∷ 112 ∷ []

-- ---- public keys: SubjectPublicKeyInfo (RFC 5280, 4.1.2.7)

abbrev pub spki : List ℕ → List ℕ → List ℕ
spki algorithm key = der_sequence (der_sequence algorithm ++ der_bit_string key)

-- RSAPublicKey (RFC 8017, A.1.1): the modulus as bytes, the highest first, and the exponent
abbrev pub rsa_public_key : List ℕ → ℕ → List ℕ
rsa_public_key n e = der_sequence (der_integer n ++ der_integer (to_be_bytes w64 e))

-- with no parameters (RFC 3279, 2.3.1)
unfoldable pub spki_rsa : List ℕ → ℕ → List ℕ
spki_rsa n e = spki (der_oid rsa_encryption ++ der_null) (rsa_public_key n e)

-- the point is SEC 1's, 2.3.3 (RFC 5480, 2)
unfoldable pub spki_p256 : List ℕ → List ℕ
spki_p256 point = spki (der_oid id_ec_public_key ++ der_oid secp256r1) point

-- (RFC 8410, 4)
unfoldable pub spki_ed25519 : List ℕ → List ℕ
spki_ed25519 key = spki (der_oid id_ed25519) key

-- ---- secret keys: OneAsymmetricKey (RFC 5958, 2), version 0, without attributes and public key

abbrev pub pkcs8 : List ℕ → List ℕ → List ℕ
pkcs8 algorithm key = der_sequence (der_integer [] ++ der_sequence algorithm ++ der_octet_string key)

-- CurvePrivateKey (RFC 8410, 7)
unfoldable pub pkcs8_ed25519 : List ℕ → List ℕ
pkcs8_ed25519 secret = pkcs8 (der_oid id_ed25519) (der_octet_string secret)

-- ECPrivateKey (RFC 5915, 3), version 1, without parameters and with the public key
abbrev pub ec_private_key : List ℕ → List ℕ → List ℕ
ec_private_key secret point =
    der_sequence (der_integer (1 ∷ []) ++ der_octet_string secret ++ der_explicit 1 (der_bit_string point))

unfoldable pub pkcs8_p256 : List ℕ → List ℕ → List ℕ
pkcs8_p256 secret point = pkcs8 (der_oid id_ec_public_key ++ der_oid secp256r1) (ec_private_key secret point)

-- ---- signatures

-- Ecdsa-Sig-Value (RFC 3279, 2.2.3)
unfoldable pub sig_value : List ℕ → List ℕ → List ℕ
sig_value r s = der_sequence (der_integer r ++ der_integer s)
