-- The demonstration scheme, which is no secure one: a signature is the SHA-256 of the key's public bytes, followed by
-- the message.
use Rattle.std.specs.Prelude.{ℕ, List, ◌++◌}
use Rattle.std.specs.Str.{bytes_eq}
use Rattle.sha2.specs.Sha256.{sha256}
use Rattle.tough_keys.specs.Same.{Verifies}

abbrev pub demo_signature : List ℕ → List ℕ → List ℕ
demo_signature public message = sha256 (public ++ message)

abbrev pub demo_verifies : Verifies
demo_verifies key message signature = bytes_eq (demo_signature key.public message) signature
