use Rattle.tough_p256.proofs.Orders.{sum_in}
use Rattle.tough_p256.proofs.scalar.Scalar.add.Goals as goal

pub returns : goal.returns
returns c = cc (sum_in _ _ _ c.plus_words.ensures.sum)
