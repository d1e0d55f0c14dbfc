use Rattle.tough_shared.specs.Keeping.{begun_of}
use Rattle.witnesses.proofs.steps.shared_step.Goals as goal

pub returns : goal.returns
returns g c = (begun_of c.args.keeper.now, c.take.ensures.0)
