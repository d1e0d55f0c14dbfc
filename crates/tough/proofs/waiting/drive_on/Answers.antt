use Rattle.std.specs.Prelude.{IfOk}
use Rattle.tough_update.specs.View.{core_doc, outcome_doc}
use Rattle.tough_load.specs.Advancing.{Finishes}
use Rattle.tough_load.specs.Loader.{first_core, settings_of, transport_of, verifier_of, held_of}
use Rattle.tough_load.specs.Loading.{Ends}
use Rattle.tough_load.specs.Vouching.{Vouches}
use Rattle.tough_load.specs.Words as part
use Rattle.tough.proofs.Driven.{ran, ended, each}
use Rattle.tough.proofs.waiting.drive_on.Goals as goal

pub returns-clause-done : goal.returns-clause-done
returns-clause-done g c =
    ran (λ l both. Finishes g.T.Transport.refuses g.T.Transport.serves g.K.Keeper.keeps g.K.Keeper.reads g.C.Clock.may_give g.T.Stream.Stream.yields g.V.Verify.verifies l (outcome_doc both.0) both.1)
    (part.running_in c.run.result) c.args.load c.block_on.result c.run.ensures c.block_on.ensures

pub returns-clause-trusted : goal.returns-clause-trusted
returns-clause-trusted g c = λ from begun.
    each (λ both. Finishes g.T.Transport.refuses g.T.Transport.serves g.K.Keeper.keeps g.K.Keeper.reads g.C.Clock.may_give g.T.Stream.Stream.yields g.V.Verify.verifies c.args.load (outcome_doc both.0) both.1)
    (λ both. IfOk (outcome_doc both.0) (Vouches g.T.Transport.refuses g.T.Transport.serves g.K.Keeper.keeps g.K.Keeper.reads g.C.Clock.may_give g.T.Stream.Stream.yields
    (g.V.Verify.verifies (verifier_of from)) (part.base_of c.args.load)
    (transport_of from) (first_core (settings_of from)) (held_of from) (core_doc (part.core_of both.1)) (part.held_of both.1)))
    c.block_on.result (returns-clause-done g c)
    (λ both f. ended (Vouches g.T.Transport.refuses g.T.Transport.serves g.K.Keeper.keeps g.K.Keeper.reads g.C.Clock.may_give g.T.Stream.Stream.yields
    (g.V.Verify.verifies (verifier_of from)) (part.base_of c.args.load)
    (transport_of from) (first_core (settings_of from)) (held_of from) (core_doc (part.core_of both.1)) (part.held_of both.1))
    (λ o. Ends g.T.Transport.refuses g.T.Transport.serves g.K.Keeper.keeps g.K.Keeper.reads g.C.Clock.may_give g.T.Stream.Stream.yields (g.V.Verify.verifies (part.verifier_of c.args.load)) (part.base_of c.args.load)
    (part.transport_of c.args.load) (part.fetch_of c.args.load) (core_doc (part.core_of c.args.load)) (part.held_of c.args.load) o
    (core_doc (part.core_of both.1)) (part.held_of both.1))
    (outcome_doc both.0) f.ends
    (λ d h. c.loads_are_trusted.ensures from c.args.load d (core_doc (part.core_of both.1)) (part.held_of both.1) begun h))
