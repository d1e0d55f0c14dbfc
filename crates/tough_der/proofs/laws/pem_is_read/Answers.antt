use Rattle.tough_der.proofs.Pems.{pem_complete}
use Rattle.tough_der.proofs.laws.pem_is_read.Goals as goal

pub returns : goal.returns
returns c = pem_complete
