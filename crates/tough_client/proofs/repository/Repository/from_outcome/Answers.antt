use Rattle.tough_update.specs.View.{core_doc}
use Rattle.tough_load.specs.Loader.{first_core, settings_of, transport_of, verifier_of, held_of}
use Rattle.tough_load.specs.Words as load
use Rattle.tough_client.specs.Repositories as repository
use Rattle.tough_client.proofs.Opened.{opened, refused}
use Rattle.tough_client.proofs.Vouched.{made-held, vouched-same}
use Rattle.tough_client.proofs.repository.Repository.from_outcome.Goals as goal

pub returns-in-Ok-clause-opens : goal.returns-in-Ok-clause-opens
returns-in-Ok-clause-opens g c old finishes =
    opened g.T.Transport.refuses g.T.Transport.serves g.K.Keeper.keeps g.K.Keeper.reads g.C.Clock.may_give g.T.Stream.Stream.yields g.V.Verify.verifies old
    c.args.outcome c.args.load finishes c.in-Ok.loaded c.new.result c.in-Ok.is c.new.ensures

pub returns-in-Ok-clause-trusted : goal.returns-in-Ok-clause-trusted
returns-in-Ok-clause-trusted g c from base vouched = (
  core_doc (load.core_of c.args.load),
  vouched-same g.T.Transport.refuses g.T.Transport.serves g.K.Keeper.keeps g.K.Keeper.reads g.C.Clock.may_give g.T.Stream.Stream.yields (g.V.Verify.verifies (verifier_of from)) base
      (transport_of from) (first_core (settings_of from)) (held_of from)
      c.args.outcome (core_doc (load.core_of c.args.load)) (load.held_of c.args.load) (repository.held_of c.new.result)
      c.in-Ok.loaded (repository.loaded_of c.new.result)
      c.in-Ok.is (made-held c.args.load c.in-Ok.loaded c.new.result c.new.ensures) c.new.ensures.loaded vouched,
)

pub returns-in-Err-clause-opens : goal.returns-in-Err-clause-opens
returns-in-Err-clause-opens g c old finishes =
    refused g.T.Transport.refuses g.T.Transport.serves g.K.Keeper.keeps g.K.Keeper.reads g.C.Clock.may_give g.T.Stream.Stream.yields g.V.Verify.verifies old
    c.args.outcome c.args.load finishes c.in-Err.error c.from.result c.in-Err.is c.from.ensures
