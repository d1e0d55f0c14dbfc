use Rattle.std.proofs.Common.{◌≡◌, ◌-◌, ◌*◌, ◌/◌, ◌%◌, ◌^◌}
use Rattle.tough_ed25519.specs.Words.{words_number}
use Rattle.tough_ed25519.specs.Order.{order}
use Rattle.tough_ed25519.proofs.scalar.Scalar.mul.Given as goal

abbrev pub invariant-loop-done : goal.invariant-loop-done
invariant-loop-done l = l.answer ≡ (l.self * (words_number l.number / 2 ^ (256 - l.done))) % order
