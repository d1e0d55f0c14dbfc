use Rattle.std.proofs.Common.{arith}
use Rattle.tough_modular.proofs.Numbers.{number_all}
use Rattle.tough_modular.proofs.WordLoops.{below_more}
use Rattle.tough_modular.proofs.sums.is_below.Goals as goal

pub loop-i-preserved : goal.loop-i-preserved
loop-i-preserved c = below_more c.args.left.now c.args.right.now c.loop-i.i c.loop-i.below c.is_below_with-below.result c.type_inv.left c.type_inv.right (omega arith) (omega arith) c.loop-i.invariant c.is_below_with-below.ensures

pub returns : goal.returns
returns c =
    let l = number_all c.args.left.now c.loop-i.i (omega arith) in
    let r = number_all c.args.right.now c.loop-i.i (omega arith) in
    cc c.loop-i.invariant
