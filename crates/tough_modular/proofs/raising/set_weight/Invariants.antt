use Rattle.std.proofs.Common.{◌*◌, ◌^◌, ◌<◌, length}
use Rattle.tough_modular.specs.Number.{number, IsForm}
use Rattle.tough_modular.proofs.raising.set_weight.Given as goal

abbrev pub invariant-loop-done : goal.invariant-loop-done
invariant-loop-done l = record {
  form : IsForm (2 ^ (length l.modulus * 2 ^ l._done)) l.total l.modulus;
  below : number l.total < number l.modulus;
}
