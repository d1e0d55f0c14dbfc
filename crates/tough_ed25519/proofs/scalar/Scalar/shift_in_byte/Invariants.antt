use Rattle.std.proofs.Common.{◌≡◌, ◌+◌, ◌-◌, ◌*◌, ◌/◌, ◌%◌, ◌^◌}
use Rattle.tough_ed25519.specs.Order.{order}
use Rattle.tough_ed25519.proofs.scalar.Scalar.shift_in_byte.Given as goal

abbrev pub invariant-loop-done : goal.invariant-loop-done
invariant-loop-done l = l.answer ≡ (2 ^ l.done * l.self + l.byte / 2 ^ (8 - l.done)) % order
