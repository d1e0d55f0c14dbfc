use Rattle.std.proofs.Common.{rules}
use Rattle.tough_schema.proofs.Fresh.{fresh-named}
use Rattle.tough_schema.proofs.targets.DelegatedTargets.read.Goals as goal

pub returns-in-Ok-clause-fresh : goal.returns-in-Ok-clause-fresh
returns-in-Ok-clause-fresh c = fresh-named _ c.in-Ok.ensures.fresh (search rules)
