use Rattle.tough_p256.proofs.FourWords.{words, four, weight_four, row_sum}
use Rattle.tough_p256.proofs.rows.add_row.Goals as goal

pub returns-clause-sum : goal.returns-clause-sum
returns-clause-sum c =
    rw (words, four c.args.total.now c.told-total, four c.args.words.now c.told-words, weight_four)
    (row_sum _ _ _ _ _ _ _ _ _ _ _ _ _ _ _ _ _ c.add_product_to-first.ensures c.add_product_to-second.ensures c.add_product_to-third.ensures c.add_product_to-fourth.ensures)
