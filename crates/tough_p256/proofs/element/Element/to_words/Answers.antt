use Rattle.tough_p256.proofs.Products.{left_form}
use Rattle.tough_p256.proofs.element.Element.to_words.Goals as goal

pub returns-clause-number : goal.returns-clause-number
returns-clause-number c = cc (left_form _ _ (rw c.one.ensures at c.times_words.ensures.product))
