use Rattle.tough_p256.proofs.Products.{minus_in}
use Rattle.tough_p256.proofs.element.Element.sub.Goals as goal

pub returns : goal.returns
returns c = cc (minus_in _ _ _ c.other.invariant c.minus_words.ensures.difference)
