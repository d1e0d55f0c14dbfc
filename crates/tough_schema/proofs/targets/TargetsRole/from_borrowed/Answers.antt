use Rattle.tough_schema.specs.Targets.{targets_doc}
use Rattle.tough_schema.proofs.Firsts.{refused-value}
use Rattle.tough_schema.proofs.TargetsLemmas.{targets-kept}
use Rattle.tough_schema.proofs.targets.TargetsRole.from_borrowed.Goals as goal

pub returns-in-Ok-clause-kept : goal.returns-in-Ok-clause-kept
returns-in-Ok-clause-kept c = λ d h. targets-kept d (targets_doc c.in-Ok.targets) (c.in-Ok.ensures.read d h)

pub returns-in-Err-clause-read : goal.returns-in-Err-clause-read
returns-in-Err-clause-read c = λ d h. refused-value c.in-Err.error d (c.in-Err.ensures.read d h)
