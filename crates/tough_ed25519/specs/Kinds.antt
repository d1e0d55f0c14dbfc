-- Verifiers by the kind of the key.
use Rattle.std.specs.Prelude.{false}
use Rattle.tough_keys.specs.declared.kind.Kind.{Kind}
use Rattle.tough_keys.specs.declared.kind.Kind.TheVariants as kinds
use Rattle.tough_keys.specs.Same.{Verifies}

abbrev pub nothing_verifies : Verifies
nothing_verifies key message signature = false

abbrev pub verifier_of : Kind → Verifies → Verifies → Verifies → Verifies
verifier_of kinds.Rsa ed25519 rsa ecdsa = rsa
verifier_of kinds.Ed25519 ed25519 rsa ecdsa = ed25519
verifier_of kinds.Ecdsa ed25519 rsa ecdsa = ecdsa
verifier_of kinds.EcdsaOld ed25519 rsa ecdsa = ecdsa

abbrev pub by_kind : Verifies → Verifies → Verifies → Verifies
by_kind ed25519 rsa ecdsa key = verifier_of key.kind ed25519 rsa ecdsa key
