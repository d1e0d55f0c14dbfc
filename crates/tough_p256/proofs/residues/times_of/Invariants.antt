use Rattle.std.proofs.Common.{◌≡◌, ℕ, ◌+◌, ◌*◌, ◌<◌, take}
use Rattle.tough_modular.specs.Number.{number, weight, number_with}
use Rattle.tough_p256.proofs.residues.times_of.Given as goal

abbrev pub invariant-loop-i : goal.invariant-loop-i
invariant-loop-i l = record {
  product : (k : ℕ) × (weight l.i * number_with l.total l.high ≡ number l.left * number (take l.i l.right) + k * number l.modulus);
  below : number_with l.total l.high < 2 * number l.modulus;
}
