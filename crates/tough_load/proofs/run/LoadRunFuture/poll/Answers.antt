use Rattle.tough_update.specs.View.{outcome_doc}
use Rattle.tough_load.proofs.Loads.{finishes-after}
use Rattle.tough_load.proofs.run.LoadRunFuture.poll.Goals as goal

pub returns-in-Pending-clause-same : goal.returns-in-Pending-clause-same
returns-in-Pending-clause-same g c = λ both h. rw c.in-Some.is (finishes-after g.T.Transport.refuses g.T.Transport.serves g.K.Keeper.keeps g.K.Keeper.reads g.C.Clock.may_give g.T.Stream.Stream.yields g.V.Verify.verifies c.in-Some.load c.poll.new.self both.1 (outcome_doc both.0) c.in-Pending.ensures.goes h)
