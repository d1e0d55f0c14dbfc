-- What is left of a comparison: words of private clauses.
use Rattle.std.specs.Prelude.{ℕ, ◌+◌, Bool, true, ◌&&◌, List, [], ◌∷◌}
use Rattle.tough_schema.specs.declared.equal.Pair.{Pair}
use Rattle.tough_schema.specs.Below.{work}
use Rattle.tough_schema.specs.Equal.{same_roles}

abbrev pub same_pair : Pair → Bool
same_pair p = same_roles p.one.now p.other.now

abbrev pub all_same : List Pair → Bool
all_same [] = true
all_same (p ∷ ps) = same_pair p && all_same ps

-- how many steps there may be for them
abbrev pub works : List Pair → ℕ
works [] = 0
works (p ∷ ps) = work p.one.now + works ps
