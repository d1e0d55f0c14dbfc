use Rattle.tough_p256.proofs.Orders.{less_two_words}
use Rattle.tough_p256.proofs.scalar.inverse_power.Goals as goal

pub returns : goal.returns
returns c = less_two_words
