use Rattle.tough_schema.specs.Targets.{targets_doc, targets_at}
use Rattle.tough_schema.proofs.Firsts.{read-bytes}
use Rattle.tough_schema.proofs.targets.Targets.read.Goals as goal

pub returns-in-Ok-clause-read : goal.returns-in-Ok-clause-read
returns-in-Ok-clause-read c =
    let found = c.in-Ok.ensures in
    read-bytes targets_doc c.targets_in.result found.0 c.args.bytes.now targets_at found.1 (c.targets_in.ensures.read found.0 found.2)
