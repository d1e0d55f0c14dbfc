use Rattle.tough_schema.proofs.Fresh.{fresh-rolled}
use Rattle.tough_schema.proofs.read_targets.targets_around.Goals as goal

pub returns-clause-fresh : goal.returns-clause-fresh
returns-clause-fresh c = fresh-rolled _ c.in_ok-delegations.ensures.fresh
