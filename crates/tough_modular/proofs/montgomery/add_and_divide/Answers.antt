use Rattle.std.proofs.Common.{◌*◌, ◌%◌, ◌^◌, ℕ, get_or, refl, arith}
use Rattle.tough_modular.specs.Number.{number}
use Rattle.tough_modular.proofs.Products.{divided, divided_below}
use Rattle.tough_modular.proofs.montgomery.add_and_divide.Goals as goal

pub returns-clause-quotient : goal.returns-clause-quotient
returns-clause-quotient c =
    let t1 = c.add_product-first.new.total in
    let q : ℕ = (get_or t1 0 0 * c.args.inverse) % 2 ^ 64 in (
      q,
      divided c.args.total.now t1 c.add_product-second.new.total c.shift-none.new.total c.args.left.now c.args.modulus.now c.args.high c.args.factor c.add_product-first.result c.add_product-second.result c.args.inverse q c.split-low.result.0 c.split-low.result.1 c.shift-none.result
          (omega arith) (omega arith) (omega arith) (omega arith) c.requires.modulus.some (omega arith) c.shift-none.ensures.lowest c.add_product-first.ensures c.add_product-second.ensures c.shift-none.ensures.moved c.split-low.ensures refl c.requires.modulus.inverse,
    )

pub returns-clause-below : goal.returns-clause-below
returns-clause-below c =
    let t1 = c.add_product-first.new.total in
    let q : ℕ = (get_or t1 0 0 * c.args.inverse) % 2 ^ 64 in
    let e = divided c.args.total.now t1 c.add_product-second.new.total c.shift-none.new.total c.args.left.now c.args.modulus.now c.args.high c.args.factor c.add_product-first.result c.add_product-second.result c.args.inverse q c.split-low.result.0 c.split-low.result.1 c.shift-none.result
    (omega arith) (omega arith) (omega arith) (omega arith) c.requires.modulus.some (omega arith) c.shift-none.ensures.lowest c.add_product-first.ensures c.add_product-second.ensures c.shift-none.ensures.moved c.split-low.ensures refl c.requires.modulus.inverse in
    divided_below _ (number c.args.left.now) (number c.args.modulus.now) _ c.args.factor q e (omega arith) (omega arith) c.requires.left c.requires.below
