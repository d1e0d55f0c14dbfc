use Rattle.std.proofs.Common.{◌≡◌, ◌-◌, ◌%◌, length, drop}
use Rattle.tough_ed25519.specs.Bytes.{bytes_number}
use Rattle.tough_ed25519.specs.Order.{order}
use Rattle.tough_ed25519.proofs.scalar.Scalar.reduce.Given as goal

abbrev pub invariant-loop-done : goal.invariant-loop-done
invariant-loop-done l = l.answer ≡ bytes_number (drop (length l.bytes - l.done) l.bytes) % order
