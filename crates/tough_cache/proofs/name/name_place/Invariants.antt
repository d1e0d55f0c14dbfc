use Rattle.std.proofs.Common.{◌≡◌, ◌≤◌, drop}
use Rattle.tough_cache.specs.Versioned.{last_part, name_in}
use Rattle.tough_cache.proofs.name.name_place.Given as goal

abbrev pub invariant-loop-at : goal.invariant-loop-at
invariant-loop-at l = record {
  name : last_part (drop l.place l.path) (drop l.at l.path) ≡ name_in l.path;
  inside : l.place ≤ l.at;
}
