use Rattle.std.proofs.Common.{◌≡◌, ◌+◌, ◌*◌, ◌%◌, ℕ, arith, ap, ◌∙◌}
use Rattle.tough_modular.specs.Number.{number, number_with}
use Rattle.tough_modular.proofs.Products.{reduced}
use Rattle.tough_p256.proofs.FourWords.{with_four}
use Rattle.tough_p256.proofs.residues.plus_of.Goals as goal

pub reduce-requires : goal.reduce-requires
reduce-requires c =
    let e : number_with c.add_row-high.result.0 c.add_row-high.result.1 ≡ number c.args.left.now + 1 * number c.args.right.now = with_four _ _ _ c.add_row-high.ensures.length c.add_row-high.ensures.sum in
    record { below = omega arith }

pub returns-clause-sum : goal.returns-clause-sum
returns-clause-sum c =
    let e : number_with c.add_row-high.result.0 c.add_row-high.result.1 ≡ number c.args.left.now + 1 * number c.args.right.now = with_four _ _ _ c.add_row-high.ensures.length c.add_row-high.ensures.sum in
    let f : number c.args.left.now + 1 * number c.args.right.now ≡ number c.args.left.now + number c.args.right.now = omega arith in
    c.reduce.ensures ∙ ap (λ (n : ℕ). n % number c.args.modulus.now) (e ∙ f)

pub returns-clause-below : goal.returns-clause-below
returns-clause-below c = reduced _ _ (number c.args.modulus.now) (omega arith) c.reduce.ensures
