use Rattle.tough_der.proofs.Pems.{pem_written}
use Rattle.tough_der.proofs.laws.written_is_pem.Goals as goal

pub returns : goal.returns
returns c = pem_written
