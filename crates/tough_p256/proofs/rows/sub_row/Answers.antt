use Rattle.std.proofs.Common.{arith}
use Rattle.tough_p256.proofs.FourWords.{words, four, row_difference, row_below}
use Rattle.tough_p256.proofs.rows.sub_row.Goals as goal

pub returns-clause-difference : goal.returns-clause-difference
returns-clause-difference c =
    rw (words, four c.args.left.now c.told-left, four c.args.right.now c.told-right)
    (row_difference _ _ _ _ _ _ _ _ _ _ _ _ _ _ _ _ c.sub_with_borrow-first.ensures.difference c.sub_with_borrow-second.ensures.difference c.sub_with_borrow-third.ensures.difference c.sub_with_borrow-fourth.ensures.difference)

pub returns-clause-below : goal.returns-clause-below
returns-clause-below c = rw words (row_below _ _ _ _ (omega arith) (omega arith) (omega arith) (omega arith))
