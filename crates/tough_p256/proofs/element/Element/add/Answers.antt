use Rattle.tough_p256.proofs.Products.{plus_in}
use Rattle.tough_p256.proofs.element.Element.add.Goals as goal

pub returns : goal.returns
returns c = cc (plus_in _ _ _ c.plus_words.ensures.sum)
