use Rattle.tough_sign.proofs.Reaching.{reached}
use Rattle.tough_sign.proofs.laws.signatures_reach.Goals as goal

pub returns : goal.returns
returns g c v known role signers text ss sorted well made enough = reached v g.S.Sign.key g.S.Sign.signs known role signers text ss sorted well made enough
