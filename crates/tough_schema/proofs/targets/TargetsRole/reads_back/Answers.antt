use Rattle.tough_schema.specs.declared.targets.Targets.{out-Targets}
use Rattle.tough_schema.specs.Targets.{targets_doc}
use Rattle.tough_schema.proofs.TargetsLemmas.{targets-back}
use Rattle.tough_schema.proofs.targets.TargetsRole.reads_back.Goals as goal

pub returns : goal.returns
returns c = λ known d told.
    let r = c.in_ok-known.ensures known d told in
    (r.0, λ kept. targets-back (targets_doc c.args.self.now) d (out-Targets c.args.self.now).expires.in_range kept r.1 told)
