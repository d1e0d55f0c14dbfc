use Rattle.std.proofs.Common.{◌≡◌, ℕ, ◌-◌, ◌/◌, ◌%◌, ◌^◌, ◌<◌, get_or}
use Rattle.tough_modular.specs.Number.{number}
use Rattle.tough_modular.proofs.octets.set_bytes.Given as goal

abbrev pub invariant-loop-i : goal.invariant-loop-i
invariant-loop-i l = (k : ℕ) → k < l.i → get_or l.bytes k 0 ≡ number l.words / 256 ^ (l.len - 1 - k) % 256
