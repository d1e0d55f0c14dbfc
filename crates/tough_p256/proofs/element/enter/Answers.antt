use Rattle.tough_p256.proofs.Products.{enter_words}
use Rattle.tough_p256.proofs.element.enter.Goals as goal

pub returns : goal.returns
returns c = enter_words
