-- Keys that sign.
use Rattle.std.specs.Prelude.{◌≡◌, ℕ, List, ◌∷◌, Option, Some, None, option_map, Result, Ok, Err, ⊤}
use Rattle.tough_keys.specs.declared.kind.Kind.{Kind}
use Rattle.tough_keys.specs.declared.kind.Kind.TheVariants as kinds
use Rattle.tough_keys.specs.Key.{KeyDoc, key_doc}
use Rattle.tough_ed25519.specs.Secrets.{key_of}
use Rattle.tough_der.specs.Der.{pkcs8_ed25519, pkcs8_p256}
use Rattle.tough_der.specs.Pem.{pem_text}
use Rattle.tough_p256.specs.Signing.{public_key}
use Rattle.tough_signatures.specs.Secrets.{digits_key, ecdsa_key, secret_label}
use Rattle.tough_signatures.specs.declared.signing_key.SigningKey.{SigningKey}
use Rattle.tough_signatures.specs.declared.signing_key.SigningKey.TheVariants as signers
use Rattle.tough_signatures.specs.declared.signing_key.SecretError.{SecretError}
use Rattle.tough_signatures.specs.declared.signing_key.SecretError.TheVariants as errors

-- its kind and its secret
abbrev pub secret_in : SigningKey → Kind × List ℕ
secret_in (signers.Ed25519 s) = (kinds.Ed25519, s.secret)
secret_in (signers.Ecdsa s) = (kinds.Ecdsa, s.secret)

-- the key that its signatures verify by
abbrev pub key_in : SigningKey → KeyDoc
key_in (signers.Ed25519 s) = key_doc s.key
key_in (signers.Ecdsa s) = key_doc s.key

-- the key of a secret
abbrev pub secret_key : Kind → List ℕ → Option KeyDoc
secret_key kinds.Rsa secret = None
secret_key kinds.Ed25519 secret = Some (digits_key (key_of secret))
secret_key kinds.Ecdsa secret = option_map ecdsa_key (public_key secret)
secret_key kinds.EcdsaOld secret = None

-- the text of a secret, as a file has it
abbrev pub secret_text : Kind → List ℕ → Option (List ℕ)
secret_text kinds.Rsa secret = None
secret_text kinds.Ed25519 secret = Some (pem_text secret_label (pkcs8_ed25519 secret))
secret_text kinds.Ecdsa secret = option_map (λ c. pem_text secret_label (pkcs8_p256 secret (4 ∷ c))) (public_key secret)
secret_text kinds.EcdsaOld secret = None

-- it has this secret of this kind, and the key of that
pub record IsSigner (kind : Kind) (secret : List ℕ) (k : SigningKey) : Type 0 where
  pub secret_is : secret_in k ≡ (kind, secret)
  pub key_is : secret_key kind secret ≡ Some (key_in k)

abbrev pub SignerFor : Option (Kind × List ℕ) → SigningKey → Type 0
SignerFor None k = ⊥
SignerFor (Some s) k = IsSigner s.0 s.1 k

abbrev pub RefusesSecret : {A : Type 0} → SecretError → Option A → Type 0
RefusesSecret errors.NotASecret answer = answer ≡ None
RefusesSecret errors.Memory answer = ⊤

-- what reading a secret answers
abbrev pub ReadsSecret : Result SigningKey SecretError → Option (Kind × List ℕ) → Type 0
ReadsSecret (Ok k) answer = SignerFor answer k
ReadsSecret (Err e) answer = RefusesSecret e answer
