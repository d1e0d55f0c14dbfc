use Rattle.tough_p256.proofs.FourWords.{words, four, weight_four, row_shift}
use Rattle.tough_p256.proofs.rows.shift_row.Goals as goal

pub returns-clause-moved : goal.returns-clause-moved
returns-clause-moved c = rw (words, four c.args.total.now c.told-total, weight_four) (row_shift _ _ _ _ _)
