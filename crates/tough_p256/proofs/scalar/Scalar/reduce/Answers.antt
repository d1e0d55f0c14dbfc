use Rattle.tough_p256.proofs.Orders.{entered}
use Rattle.tough_p256.proofs.scalar.Scalar.reduce.Goals as goal

pub returns : goal.returns
returns c = entered _ _ (rw c.enter.ensures at c.times_words.ensures.product)
