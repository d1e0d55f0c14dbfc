use Rattle.std.proofs.Common.{◌≡◌, ◌*◌, ◌/◌, ◌%◌, ◌^◌, ◌-◌, ◌+◌, ℕ, length, arith, subst}
use Rattle.tough_modular.specs.Number.{number, weight}
use Rattle.tough_modular.proofs.Forms.{power_one, power_more, power_all}
use Rattle.tough_modular.proofs.raising.raise.Goals as goal

pub loop-done-init : goal.loop-done-init
loop-done-init c = record {
  form = λ v f. rw (power_one v c.args.exponent c.highest_bit-highest.result c.highest_bit-highest.ensures.bit) f;
  below = c.requires.below;
}

pub loop-done-preserved : goal.loop-done-preserved
loop-done-preserved c =
    let h : ℕ = c.highest_bit-highest.result in
    let k : ℕ = c.loop-done.done in
    record {
      form = λ v f.
          let s = c.square_and_multiply.ensures.form (v ^ (c.args.exponent / 2 ^ (h - k))) v (c.loop-done.invariant.form v f) (rw c.requires.base at f) in
          subst (λ (x : ℕ). number c.square_and_multiply.new.total ≡ (x * weight (length c.args.modulus.now)) % number c.args.modulus.now)
          (power_more v c.args.exponent (h - k) (h - 1 - k) (h - (k + 1)) (omega arith) (omega arith)) (rw c.bit_of.ensures at s);
      below = c.square_and_multiply.ensures.below;
    }

pub returns-clause-form : goal.returns-clause-form
returns-clause-form c = λ v f.
    subst (λ (x : ℕ). number c.loop-done.total ≡ (x * weight (length c.args.modulus.now)) % number c.args.modulus.now)
    (power_all v c.args.exponent (c.highest_bit-highest.result - c.loop-done.done) (omega arith)) (c.loop-done.invariant.form v f)
