use Rattle.std.proofs.Common.{◌*◌, ◌%◌, ◌^◌, ℕ, get_or, refl, arith}
use Rattle.tough_modular.specs.Number.{number}
use Rattle.tough_modular.proofs.Products.{divided_below}
use Rattle.tough_p256.proofs.FourWords.{divided_four}
use Rattle.tough_p256.proofs.rows.step.Goals as goal

pub returns-clause-quotient : goal.returns-clause-quotient
returns-clause-quotient c =
    let q : ℕ = (get_or c.add_row-carry.result.0 0 0 * c.args.inverse) % 2 ^ 64 in (
      q,
      divided_four c.args.total.now c.add_row-carry.result.0 c.add_row-more.result.0 c.shift_row.result c.args.left.now c.args.modulus.now c.args.high c.args.factor c.add_row-carry.result.1 c.add_row-more.result.1 c.args.inverse q c.sum_of_three-low.result.0 c.sum_of_three-low.result.1
          c.told-total c.add_row-carry.ensures.length c.add_row-more.ensures.length c.shift_row.ensures.length c.told-modulus c.add_row-more.ensures.low c.add_row-carry.ensures.sum c.add_row-more.ensures.sum c.shift_row.ensures.moved c.sum_of_three-low.ensures refl c.requires.modulus.inverse,
    )

pub returns-clause-below : goal.returns-clause-below
returns-clause-below c =
    let q : ℕ = (get_or c.add_row-carry.result.0 0 0 * c.args.inverse) % 2 ^ 64 in
    let e = divided_four c.args.total.now c.add_row-carry.result.0 c.add_row-more.result.0 c.shift_row.result c.args.left.now c.args.modulus.now c.args.high c.args.factor c.add_row-carry.result.1 c.add_row-more.result.1 c.args.inverse q c.sum_of_three-low.result.0 c.sum_of_three-low.result.1
    c.told-total c.add_row-carry.ensures.length c.add_row-more.ensures.length c.shift_row.ensures.length c.told-modulus c.add_row-more.ensures.low c.add_row-carry.ensures.sum c.add_row-more.ensures.sum c.shift_row.ensures.moved c.sum_of_three-low.ensures refl c.requires.modulus.inverse in
    divided_below _ (number c.args.left.now) (number c.args.modulus.now) _ c.args.factor q e (omega arith) (omega arith) c.requires.left c.requires.below
