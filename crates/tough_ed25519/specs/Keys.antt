-- Signatures by Ed25519 keys, as the traits of keys have them.
use Rattle.std.specs.Prelude.{◌≡◌, ℕ, List, Bool, false, ⊤}
use Rattle.tough_keys.specs.declared.kind.Kind.{Kind}
use Rattle.tough_keys.specs.declared.kind.Kind.TheVariants as kinds
use Rattle.tough_keys.specs.declared.sign.SignError.{SignError}
use Rattle.tough_keys.specs.declared.sign.SignError.TheVariants as signs
use Rattle.tough_keys.specs.Same.{KeyData, Verifies}
use Rattle.tough_ed25519.specs.Signatures.{is_signature}
use Rattle.tough_ed25519.specs.Secrets.{signature_of}

-- a key of another kind verifies nothing
abbrev pub if_ed25519 : Kind → Bool → Bool
if_ed25519 kinds.Rsa b = false
if_ed25519 kinds.Ed25519 b = b
if_ed25519 kinds.Ecdsa b = false
if_ed25519 kinds.EcdsaOld b = false

abbrev pub ed25519_verifies : Verifies
ed25519_verifies key message signature = if_ed25519 key.kind (is_signature key.public message signature)

-- what the secret signs doesn't verify
abbrev pub Refuses : KeyData → List ℕ → List ℕ → SignError → Type 0
Refuses key secret message (signs.Failed why) =
    ed25519_verifies key message (signature_of secret message) ≡ false
Refuses key secret message signs.Memory = ⊤
