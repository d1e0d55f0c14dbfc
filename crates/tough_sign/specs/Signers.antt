-- Signers with their keys.
use Rattle.std.specs.Prelude.{◌≡◌, ℕ, List, map, Option, Some, None}
use Rattle.std.specs.List.{All, Any}
use Rattle.tough_decoded.specs.Spelled.{Spelled}
use Rattle.tough_keys.specs.Key.{KeyDoc, key_doc}
use Rattle.tough_keys.specs.declared.key.Key.{Key}
use Rattle.tough_sign.specs.declared.signers.KeyedSigner.{KeyedSigner}

-- the key that the signer told
abbrev pub key_in : {S : Type 0} → KeyedSigner S → Key
key_in k = k.key

abbrev pub signers_of : {S : Type 0} → List (KeyedSigner S) → List S
signers_of ks = map (λ k. k.signer.now) ks

-- each has the key that its signer tells
abbrev pub AreKeyed : {S : Type 0} → (S → KeyDoc) → List (KeyedSigner S) → Type 0
AreKeyed key_of ks = All (λ k. key_doc (key_in k) ≡ key_of k.signer.now) ks

-- one of the signers may fail for the reason
abbrev pub SomeFails : {S : Type 0} → (S → List ℕ → Type 0) → List S → List ℕ → Type 0
SomeFails fails signers reason = Any (λ x. fails x reason) signers

-- who signs, if anybody does, may fail for the reason
abbrev pub OneFails : {S : Type 0} → (S → List ℕ → Type 0) → Option (Spelled × S) → List ℕ → Type 0
OneFails fails None reason = ⊥
OneFails fails (Some c) reason = fails c.1 reason

-- one of those who sign may fail for the reason
abbrev pub ChosenFails : {S : Type 0} → (S → List ℕ → Type 0) → List (Spelled × S) → List ℕ → Type 0
ChosenFails fails chosen reason = Any (λ c. fails c.1 reason) chosen
