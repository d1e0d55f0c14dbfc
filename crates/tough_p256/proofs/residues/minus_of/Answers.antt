use Rattle.std.proofs.Common.{◌≡◌, ◌+◌, ◌*◌, ◌%◌, ◌^◌, ℕ, arith, ap, ◌∙◌}
use Rattle.tough_modular.specs.Number.{number, number_with}
use Rattle.tough_modular.proofs.Products.{reduced}
use Rattle.tough_p256.proofs.FourWords.{with_four}
use Rattle.tough_p256.proofs.Products.{none_borrowed, complement_sum}
use Rattle.tough_p256.proofs.residues.minus_of.Goals as goal

pub reduce-requires : goal.reduce-requires
reduce-requires c =
    let d : number c.sub_row-borrow.result.0 + number c.args.right.now ≡ number c.args.modulus.now = none_borrowed (2 ^ 256) _ _ _ c.sub_row-borrow.result.1 c.sub_row-borrow.ensures.difference c.sub_row-borrow.ensures.below (omega arith) in
    let e : number_with c.add_row-high.result.0 c.add_row-high.result.1 ≡ number c.sub_row-borrow.result.0 + 1 * number c.args.left.now = with_four _ _ _ c.add_row-high.ensures.length c.add_row-high.ensures.sum in
    record { below = omega arith }

pub returns-clause-difference : goal.returns-clause-difference
returns-clause-difference c =
    let d : number c.sub_row-borrow.result.0 + number c.args.right.now ≡ number c.args.modulus.now = none_borrowed (2 ^ 256) _ _ _ c.sub_row-borrow.result.1 c.sub_row-borrow.ensures.difference c.sub_row-borrow.ensures.below (omega arith) in
    let e : number_with c.add_row-high.result.0 c.add_row-high.result.1 ≡ number c.sub_row-borrow.result.0 + 1 * number c.args.left.now = with_four _ _ _ c.add_row-high.ensures.length c.add_row-high.ensures.sum in
    complement_sum _ _ _ _ _ (c.reduce.ensures ∙ ap (λ (n : ℕ). n % number c.args.modulus.now) e) d

pub returns-clause-below : goal.returns-clause-below
returns-clause-below c = reduced _ _ (number c.args.modulus.now) (omega arith) c.reduce.ensures
