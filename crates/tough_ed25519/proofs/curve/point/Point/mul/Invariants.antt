use Rattle.std.proofs.Common.{◌≡◌, ◌-◌, ◌/◌, ◌^◌}
use Rattle.tough_ed25519.specs.Words.{words_number}
use Rattle.tough_ed25519.specs.Curve.{multiple}
use Rattle.tough_ed25519.proofs.curve.point.Point.mul.Given as goal

abbrev pub invariant-loop-done : goal.invariant-loop-done
invariant-loop-done l = l.answer ≡ multiple l.done (words_number l.number / 2 ^ (l.bits - l.done)) l.self
