use Rattle.std.proofs.Common.{◌≡◌, ◌-◌, ◌/◌, ◌^◌}
use Rattle.tough_modular.specs.Number.{number}
use Rattle.tough_p256.specs.Curve.{multiple}
use Rattle.tough_p256.proofs.point.Point.mul.Given as goal

abbrev pub invariant-loop-done : goal.invariant-loop-done
invariant-loop-done l = l.answer ≡ multiple l.done (number l.words / 2 ^ (256 - l.done)) l.self
