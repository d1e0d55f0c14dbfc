-- How what was checked grows at its front.
use Rattle.std.specs.Prelude.{ℕ, List, ◌∷◌, ◌++◌, Option, Some, None}
use Rattle.std.proofs.Common.{append_assoc, inl, inr, ap}
use Rattle.futures.specs.Runs.{Runs, After}
use Rattle.tough_net.specs.declared.digests.Hashers.{Hashers}
use Rattle.tough_net.specs.Digests.{Digests, HasDigests, HasTakenIn}
use Rattle.tough_net.specs.Items.{Item, bytes_of, joined}
use Rattle.tough_net.specs.Checking.{Checks, ChecksOn}

module _ (url : List ℕ) (expected : Digests) (old new : Runs Item) (x : Item) (after : After old x new) where
  pub Checks-After : (before : List ℕ) (xs : List Item) (last : Option Item) → Checks url expected (before ++ bytes_of x) new xs last → Checks url expected before old (x ∷ xs) last
  Checks-After before xs None (inl h) = absurd h
  Checks-After before xs (Some y) (inl h) = inl (after xs (Some y) h)
  Checks-After before xs last (inr (inl h)) =
      let right = h.2 in
      inr (inl (h.0, after xs None h.1, rw (append_assoc before (bytes_of x) (joined xs)) at right))
  Checks-After before xs last (inr (inr (ys, errors, w, split, came, wrong, fails))) =
      inr (inr (x ∷ ys, errors, w, ap (λ l. x ∷ l) split, after ys None came, (rw (append_assoc before (bytes_of x) (joined ys)) at wrong), fails))

  pub ChecksOn-After : (hashers next : Hashers) → ((m : List ℕ) → HasTakenIn expected hashers m → HasTakenIn expected next (m ++ bytes_of x))
      → After (ChecksOn url expected hashers None old) x (ChecksOn url expected next None new)
  ChecksOn-After hashers next fed xs last h =
      λ before holds. Checks-After before xs last (h (before ++ bytes_of x) (fed before holds))

-- what ends without an error has the digests that are stated
pub Checks_ended : (url : List ℕ) (expected : Digests) (before : List ℕ) (source : Runs Item) (xs : List Item) → Checks url expected before source xs None → HasDigests expected (before ++ joined xs)
Checks_ended url expected before source xs (inl h) = absurd h
Checks_ended url expected before source xs (inr (inl h)) = h.2
Checks_ended url expected before source xs (inr (inr (ys, errors, w, split, came, wrong, fails))) = absurd fails.1
