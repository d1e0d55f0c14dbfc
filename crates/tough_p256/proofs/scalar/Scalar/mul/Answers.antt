use Rattle.tough_p256.proofs.Orders.{product_in}
use Rattle.tough_p256.proofs.scalar.Scalar.mul.Goals as goal

pub returns : goal.returns
returns c = cc (product_in _ _ _ c.times_words.ensures.product)
