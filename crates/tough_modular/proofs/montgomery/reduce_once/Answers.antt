use Rattle.std.proofs.Common.{◌≡◌, ◌≤◌, ◌<◌, length, arith}
use Rattle.tough_modular.specs.Number.{number, weight, number_with}
use Rattle.tough_modular.proofs.Numbers.{all_below}
use Rattle.tough_modular.proofs.Products.{taken_once, not_below, is_high}
use Rattle.tough_modular.proofs.montgomery.reduce_once.Goals as goal
use Rattle.tough_modular.proofs.montgomery.reduce_once.Goals.{else-high-eq0-via-then-high-eq0+else-is_below, else-high-eq0-via-else-high-eq0}

pub returns : goal.returns
returns c =
    let n : length c.args.modulus.now ≡ length c.args.total.now = omega arith in
    let k : length c.subtract-borrow.new.total ≡ length c.args.total.now = omega arith in
    let m : number c.args.modulus.now < weight (length c.args.total.now) = rw n at (all_below c.args.modulus.now c.type_inv.modulus) in
    let r : number c.subtract-borrow.new.total < weight (length c.args.total.now) = rw k at (all_below c.subtract-borrow.new.total c.type_inv.total) in
    let o : number c.args.modulus.now ≤ number_with c.args.total.now c.args.high =
    elim c.else-high-eq0.branch [
      | else-high-eq0-via-then-high-eq0+else-is_below w ↦ let l = not_below w.is_below.result _ _ w.is_below.ensures w.if-is_below.false in omega arith
      | else-high-eq0-via-else-high-eq0 w ↦ is_high _ (weight (length c.args.total.now)) c.args.high _ w.if-high-eq0.false m
    ] in
    taken_once _ (weight (length c.args.total.now)) c.args.high _ _ c.subtract-borrow.result c.subtract-borrow.ensures.difference c.subtract-borrow.ensures.borrow r m c.requires.below o
