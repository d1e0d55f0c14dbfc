use Rattle.tough_p256.proofs.Products.{prime_words}
use Rattle.tough_p256.proofs.element.minus_words.Goals as goal

pub minus_of-requires-clause-left : goal.minus_of-requires-clause-left
minus_of-requires-clause-left c = rw prime_words c.requires.left

pub minus_of-requires-clause-right : goal.minus_of-requires-clause-right
minus_of-requires-clause-right c = rw prime_words c.requires.right

pub returns-clause-difference : goal.returns-clause-difference
returns-clause-difference c = simp prime_words at c.minus_of.ensures.difference

pub returns-clause-below : goal.returns-clause-below
returns-clause-below c = rw prime_words at c.minus_of.ensures.below
