use Rattle.std.proofs.Common.{◌+◌, ◌*◌, ◌^◌, ◌≤◌, ◌<◌, arith}
use Rattle.tough_modular.specs.Number.{number}
use Rattle.tough_p256.proofs.FourWords.{four_below, was_above}
use Rattle.tough_p256.proofs.rows.reduce.Goals as goal
use Rattle.tough_p256.proofs.rows.reduce.Goals.{else-high-eq0-via-then-high-eq0+else-borrow-eq1, else-high-eq0-via-else-high-eq0}

pub returns : goal.returns
returns c =
    let m : number c.args.modulus.now < 2 ^ 256 = four_below c.args.modulus.now c.told-modulus c.fits-modulus in
    let o : number c.args.modulus.now ≤ number c.args.total.now + 2 ^ 256 * c.args.high =
    elim c.else-high-eq0.branch [
      | else-high-eq0-via-then-high-eq0+else-borrow-eq1 w ↦ omega (arith, w.if-borrow-eq1.false)
      | else-high-eq0-via-else-high-eq0 w ↦ omega (arith, w.if-high-eq0.false)
    ] in
    was_above c.args.total.now c.args.high _ _ c.sub_row-borrow.result.1 c.told-total o c.sub_row-borrow.ensures.borrow m c.requires.below c.sub_row-borrow.ensures.difference c.sub_row-borrow.ensures.below
