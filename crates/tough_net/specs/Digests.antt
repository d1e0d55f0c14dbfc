-- The digests that bytes are to have: of SHA-256, of SHA-512 (FIPS 180-4), of both or of neither.
use Rattle.std.specs.Prelude.{◌≡◌, ◌≢◌, ℕ, List, [], Option, Some, None, option_map, IfSome, IsSomeAnd, Bool, true, ◌&&◌}
use Rattle.std.specs.Str.{bytes_eq}
use Rattle.sha2.specs.declared.Sha256.{Sha256}
use Rattle.sha2.specs.declared.Sha512.{Sha512}
use Rattle.sha2.specs.Hashers.{Holds256, Holds512}
use Rattle.sha2.specs.Sha256.{sha256}
use Rattle.sha2.specs.Sha512.{sha512}
use Rattle.tough_net.specs.declared.error.TransportError.{TransportError}
use Rattle.tough_net.specs.declared.digests.Digests as declared
use Rattle.tough_net.specs.declared.digests.Hashers.{Hashers}
use Rattle.tough_net.specs.declared.digests.WrongDigest.{WrongDigest}
use Rattle.tough_net.specs.declared.digests.WrongDigest.TheVariants as wrong
use Rattle.tough_net.specs.Errors.{IsMismatch}

-- the digests that are stated
pub record Digests : Type 0 where
  pub sha256 : Option (List ℕ)
  pub sha512 : Option (List ℕ)

abbrev pub digests_of : declared.Digests → Digests
digests_of d = record { sha256 = option_map (λ v. v.items) d.sha256; sha512 = option_map (λ v. v.items) d.sha512 }

abbrev pub no_digests : Digests
no_digests = record { sha256 = None; sha512 = None }

-- the bytes have each digest that is stated
abbrev pub HasDigests : Digests → List ℕ → Type 0
HasDigests d bytes = IfSome d.sha256 (λ x. sha256 bytes ≡ x) × IfSome d.sha512 (λ x. sha512 bytes ≡ x)

-- the same as a test
abbrev pub is_digest : Option (List ℕ) → List ℕ → Bool
is_digest None calculated = true
is_digest (Some expected) calculated = bytes_eq calculated expected

abbrev pub has_digests : Digests → List ℕ → Bool
has_digests d bytes = is_digest d.sha256 (sha256 bytes) && is_digest d.sha512 (sha512 bytes)

-- this is the first digest that the bytes have and that isn't the stated one: that of SHA-256 comes before that of SHA-512
abbrev pub IsFirstWrong : Digests → List ℕ → WrongDigest → Type 0
IsFirstWrong d bytes (wrong.Sha256 c) = (c ≡ sha256 bytes) × IsSomeAnd d.sha256 (λ x. sha256 bytes ≢ x)
IsFirstWrong d bytes (wrong.Sha512 c) = IfSome d.sha256 (λ x. sha256 bytes ≡ x) × (c ≡ sha512 bytes) × IsSomeAnd d.sha512 (λ x. sha512 bytes ≢ x)

abbrev pub bytes_in : Option (List ℕ) → List ℕ
bytes_in None = []
bytes_in (Some bytes) = bytes

-- the error says that what was served at this URL has this digest, and not the stated one
abbrev pub Says : List ℕ → Digests → WrongDigest → TransportError → Type 0
Says url d (wrong.Sha256 c) = IsMismatch url (bytes_in d.sha256) c
Says url d (wrong.Sha512 c) = IsMismatch url (bytes_in d.sha512) c

-- bytes at this URL lack a stated digest, and the error says so of the first
abbrev pub Lacks : List ℕ → Digests → List ℕ → TransportError → Type 0
Lacks url d bytes e = (w : WrongDigest) × IsFirstWrong d bytes w × Says url d w e

-- a hasher for each digest that is stated has taken in these bytes
abbrev pub Takes256 : Option (List ℕ) → Option Sha256 → List ℕ → Type 0
Takes256 expected hasher bytes = IfSome expected (λ x. IsSomeAnd hasher (λ s. Holds256 s bytes))

abbrev pub Takes512 : Option (List ℕ) → Option Sha512 → List ℕ → Type 0
Takes512 expected hasher bytes = IfSome expected (λ x. IsSomeAnd hasher (λ s. Holds512 s bytes))

abbrev pub HasTakenIn : Digests → Hashers → List ℕ → Type 0
HasTakenIn d h bytes = Takes256 d.sha256 h.sha256 bytes × Takes512 d.sha512 h.sha512 bytes
