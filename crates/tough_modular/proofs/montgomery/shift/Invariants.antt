use Rattle.std.proofs.Common.{◌≡◌, ◌+◌, ◌*◌, ◌^◌, get_or, take, drop}
use Rattle.tough_modular.specs.Number.{number}
use Rattle.tough_modular.proofs.montgomery.shift.Given as goal

abbrev pub invariant-loop-i : goal.invariant-loop-i
invariant-loop-i l = record {
  moved : get_or l.fn.total 0 0 + 2 ^ 64 * number (take l.i l.total) ≡ number (take (l.i + 1) l.fn.total);
  rest : drop (l.i + 1) l.total ≡ drop (l.i + 1) l.fn.total;
}
