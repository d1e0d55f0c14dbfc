use Rattle.std.proofs.Common.{◌≡◌, take}
use Rattle.tough_schema.specs.Putting.{places}
use Rattle.tough_schema.proofs.way.places.Given as goal

abbrev pub invariant-loop-list : goal.invariant-loop-list
invariant-loop-list l = l.way.items ≡ places (take l.list-index l.above)
