use Rattle.tough_p256.proofs.Orders.{order_words}
use Rattle.tough_p256.proofs.scalar.plus_words.Goals as goal

pub plus_of-requires-clause-left : goal.plus_of-requires-clause-left
plus_of-requires-clause-left c = rw order_words c.requires.left

pub plus_of-requires-clause-right : goal.plus_of-requires-clause-right
plus_of-requires-clause-right c = rw order_words c.requires.right

pub returns-clause-sum : goal.returns-clause-sum
returns-clause-sum c = rw order_words at c.plus_of.ensures.sum

pub returns-clause-below : goal.returns-clause-below
returns-clause-below c = rw order_words at c.plus_of.ensures.below
