use Rattle.std.proofs.Common.{◌≡◌, ◌+◌, ◌*◌, ◌<◌, take, drop}
use Rattle.tough_modular.specs.Number.{number, weight}
use Rattle.tough_modular.proofs.sums.subtract.Given as goal

abbrev pub invariant-loop-i : goal.invariant-loop-i
invariant-loop-i l = record {
  difference : number (take l.i l.total) + number (take l.i l.words) ≡ number (take l.i l.fn.total) + weight l.i * l.borrow;
  borrow : l.borrow < 2;
  rest : drop l.i l.total ≡ drop l.i l.fn.total;
}
