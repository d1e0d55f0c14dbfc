use Rattle.std.proofs.Common.{length}
use Rattle.tough_modular.specs.Number.{number}
use Rattle.tough_modular.proofs.Forms.{form_left}
use Rattle.tough_modular.proofs.raising.leave_form.Goals as goal

pub returns : goal.returns
returns c = λ v f.
    form_left _ _ _ v (length c.args.modulus.now) (number c.args.modulus.now) c.requires.modulus.odd c.multiply_by.ensures.below c.multiply_by.ensures.product c.set_one.ensures f
