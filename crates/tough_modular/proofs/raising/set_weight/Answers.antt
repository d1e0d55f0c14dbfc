use Rattle.std.proofs.Common.{◌≡◌, ◌*◌, ◌%◌, ◌^◌, ℕ, length, arith, subst}
use Rattle.tough_modular.specs.Number.{number, weight}
use Rattle.tough_modular.proofs.Forms.{form_product, doubled, squared_more, squared_all}
use Rattle.tough_modular.proofs.raising.set_weight.Goals as goal

pub double_times-requires-clause-below : goal.double_times-requires-clause-below
double_times-requires-clause-below c =
    let n : length c.args.total.now ≡ length c.args.modulus.now = omega arith in
    rw (c.set_one.ensures, n) c.requires.top

pub loop-done-init : goal.loop-done-init
loop-done-init c = record {
  form = doubled _ _ (length c.args.modulus.now) _ _ (number c.args.modulus.now) c.requires.modulus.some (omega arith) (omega arith) c.set_one.ensures c.double_times.ensures.double;
  below = c.double_times.ensures.below;
}

pub square-requires-clause-below : goal.square-requires-clause-below
square-requires-clause-below c = c.loop-done.invariant.below

pub loop-done-preserved : goal.loop-done-preserved
loop-done-preserved c =
    let p : ℕ = 2 ^ (length c.args.modulus.now * 2 ^ c.loop-done._done) in
    let s = form_product _ _ _ p p (length c.args.modulus.now) (number c.args.modulus.now) c.requires.modulus.odd c.square.ensures.below c.square.ensures.product c.loop-done.invariant.form c.loop-done.invariant.form in
    record {
      form = subst (λ (x : ℕ). number c.square.new.total ≡ (x * weight (length c.args.modulus.now)) % number c.args.modulus.now) (squared_more (length c.args.modulus.now) c.loop-done._done) s;
      below = c.square.ensures.below;
    }

pub returns-clause-form : goal.returns-clause-form
returns-clause-form c =
    subst (λ (x : ℕ). number c.loop-done.total ≡ (x * weight (length c.args.modulus.now)) % number c.args.modulus.now) (squared_all (length c.args.modulus.now) c.loop-done._done (omega arith)) c.loop-done.invariant.form

pub returns-clause-below : goal.returns-clause-below
returns-clause-below c = c.loop-done.invariant.below
