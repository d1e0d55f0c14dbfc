use Rattle.std.proofs.Common.{◌*◌, length}
use Rattle.std.proofs.Math.Nat.{mul-one}
use Rattle.tough_modular.specs.Number.{number}
use Rattle.tough_modular.proofs.Forms.{form_product}
use Rattle.tough_modular.proofs.raising.square_and_multiply.Goals as goal

pub returns-then-is_odd-clause-form : goal.returns-then-is_odd-clause-form
returns-then-is_odd-clause-form c = λ u v f g.
    let s = form_product _ _ _ u u (length c.args.modulus.now) (number c.args.modulus.now) c.requires.modulus.odd c.square.ensures.below c.square.ensures.product f f in
    rw c.if-is_odd.true (form_product _ _ _ (u * u) v (length c.args.modulus.now) (number c.args.modulus.now) c.requires.modulus.odd c.multiply_by.ensures.below c.multiply_by.ensures.product s g)

pub returns-else-is_odd-clause-form : goal.returns-else-is_odd-clause-form
returns-else-is_odd-clause-form c = λ u v f g.
    rw (c.if-is_odd.false, mul-one (u * u)) (form_product _ _ _ u u (length c.args.modulus.now) (number c.args.modulus.now) c.requires.modulus.odd c.square.ensures.below c.square.ensures.product f f)
