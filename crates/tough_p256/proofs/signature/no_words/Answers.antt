use Rattle.tough_p256.proofs.Constants.{zero_form}
use Rattle.tough_p256.proofs.signature.no_words.Goals as goal

pub returns : goal.returns
returns c = zero_form
