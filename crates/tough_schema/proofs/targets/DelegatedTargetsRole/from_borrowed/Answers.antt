use Rattle.std.proofs.Common.{rules}
use Rattle.tough_schema.proofs.Fresh.{fresh-named}
use Rattle.tough_schema.specs.declared.targets.DelegatedTargets.{out-DelegatedTargets, roll-DelegatedTargets}
use Rattle.tough_schema.specs.Targets.{targets_doc}
use Rattle.tough_schema.proofs.Firsts.{refused-value}
use Rattle.tough_schema.proofs.TargetsLemmas.{targets-kept}
use Rattle.tough_schema.proofs.targets.DelegatedTargetsRole.from_borrowed.Goals as goal

pub returns-in-Ok-clause-kept : goal.returns-in-Ok-clause-kept
unfolding out-DelegatedTargets roll-DelegatedTargets denote.Hole.Carrier.out denote.Hole.Carrier.roll
returns-in-Ok-clause-kept c = λ d h. targets-kept d (targets_doc c.in-Ok.targets) (c.in-Ok.ensures.read d h)

pub returns-in-Err-clause-read : goal.returns-in-Err-clause-read
returns-in-Err-clause-read c = λ d h. refused-value c.in-Err.error d (c.in-Err.ensures.read d h)

pub returns-in-Ok-clause-fresh : goal.returns-in-Ok-clause-fresh
returns-in-Ok-clause-fresh c = fresh-named _ c.in-Ok.ensures.fresh (search rules)
