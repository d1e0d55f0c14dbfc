use Rattle.tough_signatures.proofs.Written.{secret_read}
use Rattle.tough_signatures.proofs.laws.secret_text_is_read.Goals as goal

pub returns : goal.returns
returns c = secret_read
