use Rattle.std.proofs.Common.{◌+◌, ◌*◌, length, arith}
use Rattle.tough_modular.specs.Number.{number, weight, number_with}
use Rattle.tough_modular.proofs.Products.{product_none, product_more, product_ends, reduced}
use Rattle.tough_modular.proofs.montgomery.multiply.Goals as goal

pub loop-i-init : goal.loop-i-init
loop-i-init c = record {
  product = (0, product_none (number c.clear.new.total) (weight (length c.clear.new.total)) (number c.args.left.now) (number c.args.modulus.now) c.clear.ensures);
  below = omega arith;
}

pub loop-i-preserved : goal.loop-i-preserved
loop-i-preserved c =
    let q = c.add_and_divide-high.ensures.quotient in
    let p = c.loop-i.invariant.product in
    record {
      product = (p.0 + weight c.loop-i.i * q.0, product_more c.args.right.now c.loop-i.i _ _ (number c.args.left.now) (number c.args.modulus.now) q.0 p.0 (omega arith) q.1 p.1);
      below = c.add_and_divide-high.ensures.below;
    }

pub returns-clause-product : goal.returns-clause-product
returns-clause-product c =
    product_ends c.args.right.now c.loop-i.i (length c.args.modulus.now) (number_with c.loop-i.total c.loop-i.high) (number c.args.left.now) (number c.args.modulus.now) c.loop-i.invariant.product.0 _ (omega arith) (omega arith) c.loop-i.invariant.product.1 c.reduce_once.ensures

pub returns-clause-below : goal.returns-clause-below
returns-clause-below c = reduced _ _ (number c.args.modulus.now) (omega arith) c.reduce_once.ensures
