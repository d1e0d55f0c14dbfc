use Rattle.std.proofs.Common.{◌≡◌, ◌-◌, ◌/◌, ◌^◌}
use Rattle.tough_modular.specs.Number.{number}
use Rattle.tough_p256.specs.Field.{power}
use Rattle.tough_p256.proofs.element.Element.pow.Given as goal

abbrev pub invariant-loop-done : goal.invariant-loop-done
invariant-loop-done l = l.answer ≡ power l.done (number l.exponent / 2 ^ (256 - l.done)) l.self
