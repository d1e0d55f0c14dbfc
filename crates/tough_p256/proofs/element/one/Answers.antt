use Rattle.tough_p256.proofs.Products.{one_words}
use Rattle.tough_p256.proofs.element.one.Goals as goal

pub returns : goal.returns
returns c = one_words
