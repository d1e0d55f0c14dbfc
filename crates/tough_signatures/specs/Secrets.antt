-- Keys from texts and files, and what they sign.
use Rattle.std.specs.Prelude.{◌≡◌, ℕ, List, ◌∷◌, Bool, false, Option, Some, None, option_map, option_and_then, if◌then◌else◌, bytes_eq, is_some, codes, ⊤}
use Rattle.hex.specs.Hex.{encode_lower}
use Rattle.serde_json.specs.Data.{no_members}
use Rattle.tough_keys.specs.declared.kind.Kind.{Kind}
use Rattle.tough_keys.specs.declared.kind.Kind.TheVariants as kinds
use Rattle.tough_keys.specs.declared.sign.SignError.{SignError}
use Rattle.tough_keys.specs.declared.sign.SignError.TheVariants as signs
use Rattle.tough_keys.specs.Key.{KeyDoc}
use Rattle.tough_keys.specs.Parsed.{ed25519_key}
use Rattle.tough_keys.specs.Same.{KeyData}
use Rattle.tough_der.specs.Der.{sig_value, spki_p256}
use Rattle.tough_der.specs.Pem.{pem_of, pem_text}
use Rattle.tough_der.specs.Keys.{rsa_key_of, p256_key_of, ed25519_key_of, ed25519_secret_of, p256_secret_of}
use Rattle.tough_p256.specs.Signing.{public_key, ecdsa_signature}
use Rattle.tough_signatures.specs.Verifying.{public_label, ecdsa_key_verifies}

-- ---- public keys from texts

-- a key whose public part is this text
abbrev pub text_key : Kind → List ℕ → KeyDoc
text_key kind text =
    record { kind = kind; public = record { spelling = text; bytes = text }; keyval_extra = no_members; extra = no_members }

-- the key of 32 bytes, in lower-case digits
abbrev pub digits_key : List ℕ → KeyDoc
digits_key key = ed25519_key (record { spelling = encode_lower key; bytes = key })

-- the key of a text with this encoding: RSA and ECDSA keep the text
abbrev pub key_by : List ℕ → List ℕ → Option KeyDoc
key_by text bytes =
    if is_some (rsa_key_of bytes) then Some (text_key kinds.Rsa text)
    else (if is_some (p256_key_of bytes) then Some (text_key kinds.Ecdsa text)
    else option_map digits_key (ed25519_key_of bytes))

unfoldable pub public_key_of : List ℕ → Option KeyDoc
public_key_of text = option_and_then (key_by text) (pem_of public_label text)

-- ---- signatures by ECDSA

-- the encoding of the signature (RFC 3279, 2.2.3)
abbrev pub ecdsa_bytes : List ℕ → List ℕ → Option (List ℕ)
ecdsa_bytes secret message = option_map (λ h. sig_value h.0 h.1) (ecdsa_signature secret message)

abbrev pub some_verifies : KeyData → List ℕ → Option (List ℕ) → Bool
some_verifies key message None = false
some_verifies key message (Some signature) = ecdsa_key_verifies key message signature

-- the secret signs nothing, or what doesn't verify
abbrev pub RefusesEcdsa : KeyData → List ℕ → List ℕ → SignError → Type 0
RefusesEcdsa key secret message (signs.Failed why) = some_verifies key message (ecdsa_bytes secret message) ≡ false
RefusesEcdsa key secret message signs.Memory = ⊤

-- the key of a secret: the text of the point
abbrev pub ecdsa_key : List ℕ → KeyDoc
ecdsa_key coordinates = text_key kinds.Ecdsa (pem_text public_label (spki_p256 (4 ∷ coordinates)))

-- ---- secrets in files

-- (RFC 7468, 10)
abbrev pub secret_label : List ℕ
secret_label = codes "PRIVATE KEY"

-- the point is the secret's
abbrev pub has_point : List ℕ × List ℕ → Option (List ℕ) → Bool
has_point k None = false
has_point k (Some coordinates) = bytes_eq k.1 (4 ∷ coordinates)

abbrev pub with_point : List ℕ × List ℕ → Option (Kind × List ℕ)
with_point k = if has_point k (public_key k.0) then Some (kinds.Ecdsa, k.0) else None

abbrev pub or_p256 : Option (List ℕ) → List ℕ → Option (Kind × List ℕ)
or_p256 (Some secret) bytes = Some (kinds.Ed25519, secret)
or_p256 None bytes = option_and_then with_point (p256_secret_of bytes)

-- the kind and the secret of a OneAsymmetricKey
unfoldable pub secret_by : List ℕ → Option (Kind × List ℕ)
secret_by bytes = or_p256 (ed25519_secret_of bytes) bytes

-- the text's bytes, or the file's own
abbrev pub bytes_of : Option (List ℕ) → List ℕ → List ℕ
bytes_of None file = file
bytes_of (Some bytes) file = bytes

unfoldable pub secret_of : List ℕ → Option (Kind × List ℕ)
secret_of file = secret_by (bytes_of (pem_of secret_label file) file)
