-- The test of digests, and what it tells.
use Rattle.std.specs.Prelude.{◌≡◌, ℕ, List, Option, Some, None, Bool, true, false, IsTrue, ◌&&◌, IfSome, IsSomeAnd}
use Rattle.std.proofs.Common.{refl}
use Rattle.std.proofs.lemmas.Slice.Eq.{bytes_eq-Decides}
use Rattle.sha2.specs.Sha256.{sha256}
use Rattle.sha2.specs.Sha512.{sha512}
use Rattle.tough_net.specs.declared.digests.WrongDigest.{WrongDigest}
use Rattle.tough_net.specs.declared.digests.WrongDigest.TheVariants as wrong
use Rattle.tough_net.specs.declared.digests.Hashers.{Hashers}
use Rattle.tough_net.specs.Digests.{Digests, HasDigests, is_digest, has_digests, IsFirstWrong, HasTakenIn}

both : (a b : Bool) → IsTrue (a && b) → IsTrue a × IsTrue b
both true b h = (refl, h)
both false b h = cc

both-true : (a b : Bool) → a ≡ true → b ≡ true → (a && b) ≡ true
both-true a b h k = rw h k

is-told : (o : Option (List ℕ)) (c : List ℕ) → IsTrue (is_digest o c) → IfSome o (λ x. c ≡ x)
is-told None c h = tt
is-told (Some x) c h = (bytes_eq-Decides c x).0 h

is-true : (o : Option (List ℕ)) (c : List ℕ) → IfSome o (λ x. c ≡ x) → is_digest o c ≡ true
is-true None c h = refl
is-true (Some x) c h = (bytes_eq-Decides c x).1 h

-- what the test tells
pub digests-had : (d : Digests) (bytes : List ℕ) → IsTrue (has_digests d bytes) → HasDigests d bytes
digests-had d bytes h =
    let two = both (is_digest d.sha256 (sha256 bytes)) (is_digest d.sha512 (sha512 bytes)) h in
    (is-told d.sha256 (sha256 bytes) two.0, is-told d.sha512 (sha512 bytes) two.1)

pub digests-true : (d : Digests) (bytes : List ℕ) → HasDigests d bytes → has_digests d bytes ≡ true
digests-true d bytes h =
    both-true (is_digest d.sha256 (sha256 bytes)) (is_digest d.sha512 (sha512 bytes)) (is-true d.sha256 (sha256 bytes) h.0) (is-true d.sha512 (sha512 bytes) h.1)

-- bytes that have a wrong digest don't have each
wrong-none : (o : Option (List ℕ)) (c : List ℕ) → IsSomeAnd o (λ x. c ≡ x → ⊥) → IfSome o (λ x. c ≡ x) → ⊥
wrong-none None c h k = h
wrong-none (Some x) c h k = h k

pub wrong-lacks : (d : Digests) (bytes : List ℕ) (w : WrongDigest) → IsFirstWrong d bytes w → HasDigests d bytes → ⊥
wrong-lacks d bytes (wrong.Sha256 c) h k = wrong-none d.sha256 (sha256 bytes) h.1 k.0
wrong-lacks d bytes (wrong.Sha512 c) h k = wrong-none d.sha512 (sha512 bytes) h.2 k.1

not-true : (b : Bool) → (IsTrue b → ⊥) → b ≡ false
not-true true h = absurd (h refl)
not-true false h = refl

pub digests-false : (d : Digests) (bytes : List ℕ) (w : WrongDigest) → IsFirstWrong d bytes w → has_digests d bytes ≡ false
digests-false d bytes w h = not-true (has_digests d bytes) (λ is. wrong-lacks d bytes w h (digests-had d bytes is))

-- what is told of whatever was taken in, of these bytes
pub told-first : (o : Option WrongDigest) (d : Digests) (h : Hashers) (bytes : List ℕ) → IfSome o (λ w. (m : List ℕ) → HasTakenIn d h m → IsFirstWrong d m w) → HasTakenIn d h bytes
    → IfSome o (IsFirstWrong d bytes)
told-first None d h bytes k taken = tt
told-first (Some w) d h bytes k taken = k bytes taken
