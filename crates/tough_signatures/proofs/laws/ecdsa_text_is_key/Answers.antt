use Rattle.tough_signatures.proofs.Written.{ecdsa_text_is_key}
use Rattle.tough_signatures.proofs.laws.ecdsa_text_is_key.Goals as goal

pub returns : goal.returns
returns c = ecdsa_text_is_key
