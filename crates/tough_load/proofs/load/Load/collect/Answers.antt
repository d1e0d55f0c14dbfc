use Rattle.std.proofs.Common.{refl}
use Rattle.tough_load.proofs.Loads.{by-end}
use Rattle.tough_load.proofs.load.Load.collect.Goals as goal

pub returns-in-Ready-clause-goes : goal.returns-in-Ready-clause-goes
returns-in-Ready-clause-goes g c =
    by-end g.T.Transport.refuses g.T.Transport.serves g.K.Keeper.keeps g.K.Keeper.reads g.C.Clock.may_give g.T.Stream.Stream.yields g.V.Verify.verifies c.args.self.now _ refl refl refl refl
    c.in-Some.fetch c.in-Ready.outcome _ refl c.in-Some.is refl c.in-Ready.ensures.value c.answer_of.ensures c.answer.ensures.goes c.answer.ensures.counted
