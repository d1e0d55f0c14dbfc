use Rattle.std.proofs.Common.{◌≡◌, ◌+◌, ◌*◌, take, drop}
use Rattle.tough_modular.specs.Number.{number, weight}
use Rattle.tough_modular.proofs.sums.add_product.Given as goal

abbrev pub invariant-loop-i : goal.invariant-loop-i
invariant-loop-i l = record {
  sum : number (take l.i l.total) + weight l.i * l.carry ≡ number (take l.i l.fn.total) + l.factor * number (take l.i l.words);
  rest : drop l.i l.total ≡ drop l.i l.fn.total;
}
