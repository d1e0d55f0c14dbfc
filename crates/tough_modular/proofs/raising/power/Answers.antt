use Rattle.std.proofs.Common.{◌^◌, ℕ, length, ap, ◌∙◌}
use Rattle.tough_modular.specs.Number.{number, IsForm}
use Rattle.tough_modular.proofs.Forms.{form_entered, low_odd}
use Rattle.tough_modular.proofs.raising.power.Goals as goal

pub inverse_of-inverse-requires : goal.inverse_of-inverse-requires
inverse_of-inverse-requires c = low_odd c.args.modulus.now c.requires.some c.requires.odd

pub returns : goal.returns
returns c =
    let x : ℕ = number c.args.words.now in
    let z : IsForm x c.multiply_by.new.total c.args.modulus.now = form_entered _ _ x (length c.args.modulus.now) (number c.args.modulus.now) c.requires.odd c.multiply_by.ensures.below c.multiply_by.ensures.product c.set_weight.ensures.form in
    let f : IsForm x c.copy_from_slice.new.self c.args.modulus.now = ap number c.copy_from_slice.ensures.after ∙ z in
    c.leave_form.ensures (x ^ c.args.exponent) (c.raise.ensures.form x f)
