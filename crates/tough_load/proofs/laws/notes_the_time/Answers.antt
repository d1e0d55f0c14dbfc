use Rattle.tough_load.proofs.Stepping.{start-noted}
use Rattle.tough_load.proofs.laws.notes_the_time.Goals as goal

pub returns : goal.returns
returns g c = λ base t v k0 k left kept d h.
    start-noted g.T.Transport.refuses g.T.Transport.serves g.K.Keeper.keeps g.K.Keeper.reads g.C.Clock.may_give g.T.Stream.Stream.yields (g.V.Verify.verifies v) base t k0 k left kept d h
