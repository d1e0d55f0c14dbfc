use Rattle.tough_p256.proofs.Orders.{order_words}
use Rattle.tough_p256.proofs.scalar.order.Goals as goal

pub returns : goal.returns
returns c = order_words
