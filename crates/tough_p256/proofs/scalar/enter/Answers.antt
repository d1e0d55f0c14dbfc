use Rattle.tough_p256.proofs.Orders.{enter_words}
use Rattle.tough_p256.proofs.scalar.enter.Goals as goal

pub returns : goal.returns
returns c = enter_words
