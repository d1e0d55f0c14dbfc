use Rattle.tough_round.proofs.Released.{released-found}
use Rattle.tough_round.proofs.laws.released_is_found.Goals as goal

pub returns : goal.returns
returns g c = released-found g.S.Sign.key g.S.Sign.signs c.encodes_apart.ensures
