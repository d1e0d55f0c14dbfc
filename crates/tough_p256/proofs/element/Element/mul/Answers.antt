use Rattle.tough_p256.proofs.Products.{times_in}
use Rattle.tough_p256.proofs.element.Element.mul.Goals as goal

pub returns : goal.returns
returns c = cc (times_in _ _ _ c.times_words.ensures.product)
