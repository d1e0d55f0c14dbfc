use Rattle.tough_p256.proofs.Products.{prime_words}
use Rattle.tough_p256.proofs.element.prime.Goals as goal

pub returns : goal.returns
returns c = prime_words
