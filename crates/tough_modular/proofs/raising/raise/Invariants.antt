use Rattle.std.proofs.Common.{ℕ, ◌-◌, ◌/◌, ◌^◌, ◌<◌}
use Rattle.tough_modular.specs.Number.{number, IsForm}
use Rattle.tough_modular.proofs.raising.raise.Given as goal

abbrev pub invariant-loop-done : goal.invariant-loop-done
invariant-loop-done l = record {
  form : (v : ℕ) → IsForm v l.fn.total l.modulus → IsForm (v ^ (l.exponent / 2 ^ (l.highest - l.done))) l.total l.modulus;
  below : number l.total < number l.modulus;
}
