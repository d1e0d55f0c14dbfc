use Rattle.tough_round.proofs.Released.{released-loads}
use Rattle.tough_round.proofs.laws.released_is_loadable.Goals as goal

pub returns : goal.returns
returns g c = λ v s start signers e r.
    released-loads g.S.Sign.key g.S.Sign.signs c.encodes_apart.ensures c.signed_reaches.ensures.root c.signed_reaches-2.ensures.root c.signed_reaches-3.ensures.root c.signed_reaches-3.ensures.delegated v s start signers e r
