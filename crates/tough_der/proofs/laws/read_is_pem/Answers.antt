use Rattle.tough_der.proofs.Pems.{pem_sound}
use Rattle.tough_der.proofs.laws.read_is_pem.Goals as goal

pub returns : goal.returns
returns c = pem_sound
