use Rattle.tough_rsa.proofs.Computed.{verifies}
use Rattle.tough_rsa.proofs.laws.vector.Goals as goal

pub returns : goal.returns
returns c = verifies
