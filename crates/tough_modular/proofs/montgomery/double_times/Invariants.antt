use Rattle.std.proofs.Common.{◌≡◌, ◌*◌, ◌%◌, ◌^◌, ◌<◌}
use Rattle.tough_modular.specs.Number.{number}
use Rattle.tough_modular.proofs.montgomery.double_times.Given as goal

abbrev pub invariant-loop-done : goal.invariant-loop-done
invariant-loop-done l = record {
  double : number l.total ≡ (2 ^ l._done * number l.fn.total) % number l.modulus;
  below : number l.total < number l.modulus;
}
