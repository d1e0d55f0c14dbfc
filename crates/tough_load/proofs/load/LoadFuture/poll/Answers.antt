use Rattle.std.proofs.Common.{rules}
use Rattle.tough_update.specs.View.{core_doc, outcome_doc}
use Rattle.tough_load.specs.Words.{held_of}
use Rattle.tough_load.proofs.Loads.{advances-trans, finishes-after, gives-after}
use Rattle.tough_load.proofs.load.LoadFuture.poll.Goals as goal
use Rattle.tough_load.proofs.load.LoadFuture.poll.Goals.{then-is_some+else-collected+in-Ready-ready, else-is_some+in_default}

pub returns-then-is_some-clause-goes : goal.returns-then-is_some-clause-goes
returns-then-is_some-clause-goes g c = advances-trans g.T.Transport.refuses g.T.Transport.serves g.K.Keeper.keeps g.K.Keeper.reads g.C.Clock.may_give g.T.Stream.Stream.yields g.V.Verify.verifies c.args.self.now c.loop.self c.collect.new.self c.loop.invariant.2 c.collect.ensures.goes

pub returns-in-Some-clause-value : goal.returns-in-Some-clause-value
returns-in-Some-clause-value g c =
    let f = finishes-after g.T.Transport.refuses g.T.Transport.serves g.K.Keeper.keeps g.K.Keeper.reads g.C.Clock.may_give g.T.Stream.Stream.yields g.V.Verify.verifies c.args.self.now c.loop.self c.advance.new.self (outcome_doc c.in-Some.outcome) c.loop.invariant.2 c.in-Some.ensures.done in
    (core_doc c.advance.new.self.core, held_of c.advance.new.self, f.ends)

pub returns-in-Some-clause-done : goal.returns-in-Some-clause-done
returns-in-Some-clause-done g c = finishes-after g.T.Transport.refuses g.T.Transport.serves g.K.Keeper.keeps g.K.Keeper.reads g.C.Clock.may_give g.T.Stream.Stream.yields g.V.Verify.verifies c.args.self.now c.loop.self c.advance.new.self (outcome_doc c.in-Some.outcome) c.loop.invariant.2 c.in-Some.ensures.done

pub loop-preserved : goal.loop-preserved
loop-preserved g c =
    elim c.if-is_some.branch [
      | then-is_some+else-collected+in-Ready-ready w ↦ (search rules, search rules, advances-trans g.T.Transport.refuses g.T.Transport.serves g.K.Keeper.keeps g.K.Keeper.reads g.C.Clock.may_give g.T.Stream.Stream.yields g.V.Verify.verifies c.args.self.now c.loop.self c.if-is_some.self c.loop.invariant.2 (rw w.self-is w.collect.ensures.goes))
      | else-is_some+in_default w ↦ (search rules, search rules, advances-trans g.T.Transport.refuses g.T.Transport.serves g.K.Keeper.keeps g.K.Keeper.reads g.C.Clock.may_give g.T.Stream.Stream.yields g.V.Verify.verifies c.args.self.now c.loop.self c.if-is_some.self c.loop.invariant.2 (rw w.self-is (w.advance.ensures.goes (search rules))))
    ]

pub returns-then-is_some-clause-same : goal.returns-then-is_some-clause-same
returns-then-is_some-clause-same g c =
    let went = advances-trans g.T.Transport.refuses g.T.Transport.serves g.K.Keeper.keeps g.K.Keeper.reads g.C.Clock.may_give g.T.Stream.Stream.yields g.V.Verify.verifies c.args.self.now c.loop.self c.collect.new.self c.loop.invariant.2 c.collect.ensures.goes in
    λ r h. gives-after g.T.Transport.refuses g.T.Transport.serves g.K.Keeper.keeps g.K.Keeper.reads g.C.Clock.may_give g.T.Stream.Stream.yields g.V.Verify.verifies c.args.self.now c.collect.new.self c.collect.new.self (outcome_doc r) went h

pub returns-clause-same : goal.returns-clause-same
returns-clause-same g c = rw c.yield_now-2.ensures.pending
    (λ r h. gives-after g.T.Transport.refuses g.T.Transport.serves g.K.Keeper.keeps g.K.Keeper.reads g.C.Clock.may_give g.T.Stream.Stream.yields g.V.Verify.verifies c.args.self.now c.loop.self c.loop.self (outcome_doc r) c.loop.invariant.2 h)

pub returns-then-collected-clause-same : goal.returns-then-collected-clause-same
returns-then-collected-clause-same g c = rw c.yield_now.ensures.pending
    (λ r h. gives-after g.T.Transport.refuses g.T.Transport.serves g.K.Keeper.keeps g.K.Keeper.reads g.C.Clock.may_give g.T.Stream.Stream.yields g.V.Verify.verifies c.args.self.now c.loop.self c.loop.self (outcome_doc r) c.loop.invariant.2 h)
