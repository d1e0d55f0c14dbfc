-- A check of the digests of a stream.
use Rattle.std.specs.Prelude.{◌≡◌, ℕ, List, ◌++◌, All, Option, Some, None, IsErrAnd, IsSomeAnd, MatchOption, ◌⊎◌, string_bytes}
use Rattle.futures.specs.Runs.{Runs}
use Rattle.tough_net.specs.Digests.{Digests, digests_of, HasDigests, IsFirstWrong, Says, HasTakenIn}
use Rattle.tough_net.specs.Items.{Item, joined}
use Rattle.tough_net.specs.declared.digest_check.DigestCheck.{DigestCheck}
use Rattle.tough_net.specs.declared.digests.Hashers.{Hashers}
use Rattle.tough_net.specs.declared.digests.WrongDigest.{WrongDigest}

module _ (url : List ℕ) (expected : Digests) where
  -- each answer says that this digest isn't the stated one
  abbrev pub Fails : WrongDigest → Runs Item
  Fails w xs last = All (λ y. IsErrAnd y (Says url expected w)) xs × IsSomeAnd last (λ y. IsErrAnd y (Says url expected w))

  -- the items of source, after some bytes. Where it ends, so does this if all the bytes have each digest that is stated, and otherwise
  -- errors follow, of the first that they don't have
  abbrev pub Checks : List ℕ → Runs Item → Runs Item
  Checks before source xs last =
      IsSomeAnd last (λ y. source xs (Some y))
      ⊎ (((last ≡ None) × source xs None × HasDigests expected (before ++ joined xs))
      ⊎ ((ys : List Item) × (errors : List Item) × (w : WrongDigest) × (xs ≡ ys ++ errors) × source ys None
      × IsFirstWrong expected (before ++ joined ys) w × Fails w errors last))

  -- the same where hashers hold the bytes before, or the check has failed
  abbrev pub ChecksOn : Hashers → Option WrongDigest → Runs Item → Runs Item
  ChecksOn hashers failed source xs last =
      MatchOption failed ((before : List ℕ) → HasTakenIn expected hashers before → Checks before source xs last) (λ w. Fails w xs last)

module _ {S : Type 0} where
  abbrev pub checked : DigestCheck S → S
  checked m = m.stream

  abbrev pub url_of : DigestCheck S → List ℕ
  url_of m = string_bytes m.url

  -- the digests that are stated
  abbrev pub expected_of : DigestCheck S → Digests
  expected_of m = digests_of m.digests

  -- the digest of the bytes that turned out wrong
  abbrev pub failure_of : DigestCheck S → Option WrongDigest
  failure_of m = m.failed

  -- the hashers of m have taken in these bytes
  abbrev pub HasTaken : DigestCheck S → List ℕ → Type 0
  HasTaken m = HasTakenIn (expected_of m) m.hashers

  -- what m makes of what its stream yields
  abbrev pub Checked : DigestCheck S → Runs Item → Runs Item
  Checked m = ChecksOn (url_of m) (expected_of m) m.hashers (failure_of m)
