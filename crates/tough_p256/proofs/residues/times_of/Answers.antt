use Rattle.std.proofs.Common.{◌+◌, ◌*◌, arith}
use Rattle.tough_modular.specs.Number.{number, weight, number_with}
use Rattle.tough_modular.proofs.Products.{product_none, product_more, product_ends, reduced}
use Rattle.tough_p256.proofs.Constants.{zero_form}
use Rattle.tough_p256.proofs.Products.{divided}
use Rattle.tough_p256.proofs.residues.times_of.Goals as goal

pub loop-i-init : goal.loop-i-init
loop-i-init c = record {
  product = (0, product_none _ (weight 4) (number c.args.left.now) (number c.args.modulus.now) zero_form);
  below = rw zero_form (omega arith);
}

pub loop-i-preserved : goal.loop-i-preserved
loop-i-preserved c =
    let q = c.step-carry.ensures.quotient in
    let p = c.loop-i.invariant.product in
    record {
      product = (p.0 + weight c.loop-i.i * q.0, product_more c.args.right.now c.loop-i.i _ _ (number c.args.left.now) (number c.args.modulus.now) q.0 p.0 (omega arith) q.1 p.1);
      below = c.step-carry.ensures.below;
    }

pub returns-clause-product : goal.returns-clause-product
returns-clause-product c = λ u e.
    divided _ (number c.args.left.now * number c.args.right.now) (weight 4) u (number c.args.modulus.now)
    (reduced _ _ (number c.args.modulus.now) (omega arith) c.reduce.ensures)
    (product_ends c.args.right.now c.loop-i.i 4 (number_with c.loop-i.total c.loop-i.high) (number c.args.left.now) (number c.args.modulus.now) c.loop-i.invariant.product.0 _ (omega arith) (omega arith) c.loop-i.invariant.product.1 c.reduce.ensures)
    e

pub returns-clause-below : goal.returns-clause-below
returns-clause-below c = reduced _ _ (number c.args.modulus.now) (omega arith) c.reduce.ensures
