use Rattle.std.proofs.Common.{◌≡◌, take, nat_lt}
use Rattle.tough_modular.specs.Number.{number}
use Rattle.tough_modular.proofs.sums.is_below.Given as goal

abbrev pub invariant-loop-i : goal.invariant-loop-i
invariant-loop-i l = l.below ≡ nat_lt (number (take l.i l.left)) (number (take l.i l.right))
