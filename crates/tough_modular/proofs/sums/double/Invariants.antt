use Rattle.std.proofs.Common.{◌≡◌, ◌+◌, ◌*◌, ◌<◌, take, drop}
use Rattle.tough_modular.specs.Number.{number, weight}
use Rattle.tough_modular.proofs.sums.double.Given as goal

abbrev pub invariant-loop-i : goal.invariant-loop-i
invariant-loop-i l = record {
  double : number (take l.i l.total) + weight l.i * l.carry ≡ 2 * number (take l.i l.fn.total);
  carry : l.carry < 2;
  rest : drop l.i l.total ≡ drop l.i l.fn.total;
}
