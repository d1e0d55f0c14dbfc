use Rattle.std.proofs.Common.{◌≡◌, drop}
use Rattle.tough_cache.specs.Versioned.{goes_on, is_versioned}
use Rattle.tough_cache.proofs.name.is_versioned.Given as goal

abbrev pub invariant-loop-at : goal.invariant-loop-at
invariant-loop-at l = goes_on l.begun (drop l.at l.name) ≡ is_versioned l.name
