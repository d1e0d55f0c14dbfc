use Rattle.std.proofs.Common.{◌≡◌, ◌-◌, ◌/◌, ◌^◌}
use Rattle.tough_ed25519.specs.Field.{power}
use Rattle.tough_ed25519.specs.Words.{words_number}
use Rattle.tough_ed25519.proofs.field.element.Element.pow.Given as goal

abbrev pub invariant-loop-done : goal.invariant-loop-done
invariant-loop-done l = l.answer ≡ power l.done (words_number l.exponent / 2 ^ (l.bits - l.done)) l.self
