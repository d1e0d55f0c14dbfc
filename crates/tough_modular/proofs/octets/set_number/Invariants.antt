use Rattle.std.proofs.Common.{◌≡◌, ◌-◌, ◌*◌, take, drop, length}
use Rattle.tough_modular.specs.Number.{number}
use Rattle.tough_modular.specs.Octets.{octets_number}
use Rattle.tough_modular.proofs.octets.set_number.Given as goal

abbrev pub invariant-loop-i : goal.invariant-loop-i
invariant-loop-i l = number (take l.i l.words) ≡ octets_number (drop (length l.bytes - 8 * l.i) l.bytes)
