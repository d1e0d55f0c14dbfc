use Rattle.tough_signatures.proofs.Written.{rsa_text_is_key}
use Rattle.tough_signatures.proofs.laws.rsa_text_is_key.Goals as goal

pub returns : goal.returns
returns c = rsa_text_is_key
