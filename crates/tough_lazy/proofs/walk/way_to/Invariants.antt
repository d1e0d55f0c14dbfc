use Rattle.std.proofs.Common.{◌≡◌, take}
use Rattle.tough_lazy.specs.Walking.{places}
use Rattle.tough_lazy.proofs.walk.way_to.Given as goal

abbrev pub invariant-loop-entered : goal.invariant-loop-entered
invariant-loop-entered l = l.way.items ≡ places (take l.entered-index l.above)
