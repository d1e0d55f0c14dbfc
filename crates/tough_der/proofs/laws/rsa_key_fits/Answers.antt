use Rattle.tough_der.proofs.Read.{rsa_fits}
use Rattle.tough_der.proofs.laws.rsa_key_fits.Goals as goal

pub returns : goal.returns
returns c = rsa_fits
