use Rattle.std.proofs.Common.{rules, refl}
use Rattle.tough_update.specs.View.{core_doc, outcome_doc}
use Rattle.tough_load.specs.Loader.{first_core, settings_of, transport_of, verifier_of, held_of}
use Rattle.tough_load.specs.Words as part
use Rattle.tough_load.proofs.Loads.{advances-trans, finishes-after}
use Rattle.tough_load.proofs.lemmas.Begun.{begun-held}
use Rattle.tough_load.proofs.Trusts.{vouched}
use Rattle.tough_load.proofs.driving.drive.Goals as goal

pub returns-in-Ready-clause-done : goal.returns-in-Ready-clause-done
returns-in-Ready-clause-done g c = finishes-after g.T.Transport.refuses g.T.Transport.serves g.K.Keeper.keeps g.K.Keeper.reads g.C.Clock.may_give g.T.Stream.Stream.yields g.V.Verify.verifies c.args.load.now c.loop.load c.poll.new.self (outcome_doc c.in-Ready.outcome) c.loop.invariant.1 c.in-Ready.ensures.done

pub returns-in-Ready-clause-trusted : goal.returns-in-Ready-clause-trusted
returns-in-Ready-clause-trusted g c = λ from begun.
    let f = finishes-after g.T.Transport.refuses g.T.Transport.serves g.K.Keeper.keeps g.K.Keeper.reads g.C.Clock.may_give g.T.Stream.Stream.yields g.V.Verify.verifies c.args.load.now c.loop.load c.poll.new.self (outcome_doc c.in-Ready.outcome) c.loop.invariant.1 c.in-Ready.ensures.done in
    vouched g.T.Transport.refuses g.T.Transport.serves g.K.Keeper.keeps g.K.Keeper.reads g.C.Clock.may_give g.T.Stream.Stream.yields g.met.K.Keeper.checks g.met.K.Keeper.vouches
    g.V.Verify.verifies c.args.load.now.base c.args.load.now.verifier (verifier_of from) c.args.load.now.transport (transport_of from)
    (core_doc c.args.load.now.core) (first_core (settings_of from)) (part.held_of c.args.load.now) (held_of from) c.args.load.now.fetch
    (outcome_doc c.in-Ready.outcome) (core_doc c.poll.new.self.core) (part.held_of c.poll.new.self)
    begun.verifier begun.transport begun.core (begun-held from c.args.load.now begun) begun.fetch refl f.ends

pub loop-preserved : goal.loop-preserved
loop-preserved g c = (search rules, advances-trans g.T.Transport.refuses g.T.Transport.serves g.K.Keeper.keeps g.K.Keeper.reads g.C.Clock.may_give g.T.Stream.Stream.yields g.V.Verify.verifies c.args.load.now c.loop.load c.poll.new.self c.loop.invariant.1 c.in-Pending.ensures.goes)
