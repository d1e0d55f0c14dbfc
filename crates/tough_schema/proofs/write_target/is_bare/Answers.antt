use Rattle.tough_schema.proofs.TargetLemmas.{none-there}
use Rattle.tough_schema.proofs.write_target.is_bare.Goals as goal

pub returns : goal.returns
returns c = λ z. none-there c.args.members.now.entries (c.is_empty.ensures.0 z)
