use Rattle.tough_schema.proofs.Fresh.{fresh-rolled}
use Rattle.tough_signed.proofs.standing.bare_targets.Goals as goal

pub returns-clause-bare : goal.returns-clause-bare
returns-clause-bare c = fresh-rolled _ c.in_ok-delegations.ensures.bare
