-- Which signatures verify, by the kind and the public part of a key (TUF specification 1.0, section 4.2).
use Rattle.std.specs.Prelude.{ℕ, List, Bool, false, Option, Some, None, option_and_then, if◌then◌else◌, codes}
use Rattle.tough_decoded.specs.Spelled.{is_armour}
use Rattle.tough_keys.specs.declared.kind.Kind.{Kind}
use Rattle.tough_keys.specs.declared.kind.Kind.TheVariants as kinds
use Rattle.tough_keys.specs.Same.{Verifies}
use Rattle.tough_ed25519.specs.Keys.{ed25519_verifies}
use Rattle.tough_ed25519.specs.Kinds.{by_kind}
use Rattle.tough_der.specs.Pem.{pem_of}
use Rattle.tough_der.specs.Keys.{signature_of, rsa_key_of, p256_key_of}
use Rattle.tough_rsa.specs.Rsa.{rsa_verifies}
use Rattle.tough_p256.specs.Ecdsa.{is_signature}

-- the label of public keys (RFC 7468, 13)
abbrev pub public_label : List ℕ
public_label = codes "PUBLIC KEY"

-- ---- RSA: the text of a SubjectPublicKeyInfo

abbrev pub rsa_by : Option (List ℕ × ℕ) → List ℕ → List ℕ → Bool
rsa_by None message signature = false
rsa_by (Some k) message signature = rsa_verifies k.0 k.1 message signature

-- the modulus and the exponent that the text has
unfoldable pub rsa_numbers_of : List ℕ → Option (List ℕ × ℕ)
rsa_numbers_of text = option_and_then rsa_key_of (pem_of public_label text)

unfoldable pub rsa_text_verifies : List ℕ → List ℕ → List ℕ → Bool
rsa_text_verifies text message signature = rsa_by (rsa_numbers_of text) message signature

-- a key of another kind verifies nothing
abbrev pub if_rsa : Kind → Bool → Bool
if_rsa kinds.Rsa b = b
if_rsa kinds.Ed25519 b = false
if_rsa kinds.Ecdsa b = false
if_rsa kinds.EcdsaOld b = false

abbrev pub rsa_key_verifies : Verifies
rsa_key_verifies key message signature = if_rsa key.kind (rsa_text_verifies key.public message signature)

-- ---- ECDSA: the text of a SubjectPublicKeyInfo, or the point itself

abbrev pub halves_verify : List ℕ → List ℕ → Option (List ℕ × List ℕ) → Bool
halves_verify point message None = false
halves_verify point message (Some h) = is_signature point message h.0 h.1

abbrev pub point_verifies : Option (List ℕ) → List ℕ → List ℕ → Bool
point_verifies None message signature = false
point_verifies (Some point) message signature = halves_verify point message (signature_of signature)

-- the point that the text has
unfoldable pub text_point : List ℕ → Option (List ℕ)
text_point text = option_and_then p256_key_of (pem_of public_label text)

unfoldable pub ecdsa_bytes_verify : List ℕ → List ℕ → List ℕ → Bool
ecdsa_bytes_verify public message signature =
    point_verifies (if is_armour public then text_point public else Some public) message signature

-- both kinds have the same keys, and a key of another kind verifies nothing
abbrev pub if_ecdsa : Kind → Bool → Bool
if_ecdsa kinds.Rsa b = false
if_ecdsa kinds.Ed25519 b = false
if_ecdsa kinds.Ecdsa b = b
if_ecdsa kinds.EcdsaOld b = b

abbrev pub ecdsa_key_verifies : Verifies
ecdsa_key_verifies key message signature = if_ecdsa key.kind (ecdsa_bytes_verify key.public message signature)

-- ---- all of them

abbrev pub standard_verifies : Verifies
standard_verifies = by_kind ed25519_verifies rsa_key_verifies ecdsa_key_verifies
