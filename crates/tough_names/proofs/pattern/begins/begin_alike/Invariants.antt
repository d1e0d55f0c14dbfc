use Rattle.std.proofs.Common.{◌≡◌, drop}
use Rattle.tough_names.specs.Begins.{begin_alike}
use Rattle.tough_names.proofs.pattern.begins.begin_alike.Given as goal

abbrev pub invariant-loop-i : goal.invariant-loop-i
invariant-loop-i l = begin_alike (drop l.i l.pattern) (drop l.i l.name) ≡ begin_alike l.pattern l.name
