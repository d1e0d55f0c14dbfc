-- What a stream that ended without an error gave.
use Rattle.std.specs.Prelude.{◌≡◌, ℕ, List, [], ◌∷◌, ◌++◌, None, Ok, map, refl}
use Rattle.std.proofs.Common.{ap, inl, inr}
use Rattle.tough_net.specs.Digests.{Digests, HasDigests}
use Rattle.futures.specs.Runs.{Runs}
use Rattle.tough_net.specs.Checking.{Checks}
use Rattle.tough_net.specs.Items.{Item, joined}
use Rattle.tough_net.specs.Joining.{joined_pieces}

pub joined-pieces : (pieces : List (List ℕ)) → joined (map Ok pieces) ≡ joined_pieces pieces
joined-pieces [] = refl
joined-pieces (p ∷ ps) = ap (λ later. p ++ later) (joined-pieces ps)

pub Checks_end : (url : List ℕ) (expected : Digests) (source : Runs Item) (xs : List Item) → Checks url expected [] source xs None → HasDigests expected (joined xs)
Checks_end url expected source xs (inl h) = absurd h
Checks_end url expected source xs (inr (inl h)) = h.2
Checks_end url expected source xs (inr (inr (ys, errors, w, split, came, wrong, fails))) = absurd fails.1
