use Rattle.serde_json.specs.View.{view}
use Rattle.tough_schema.specs.declared.targets.Targets.{out-Targets}
use Rattle.tough_schema.specs.Targets.{targets_doc}
use Rattle.tough_schema.proofs.TargetsLemmas.{targets-back}
use Rattle.tough_schema.proofs.targets.TargetsRole.to_value.Goals as goal

pub returns-clause-back : goal.returns-clause-back
returns-clause-back c = λ kept. targets-back (targets_doc c.args.self.now) (view c.in_ok-value.value) (out-Targets c.args.self.now).expires.in_range kept c.in_ok-value.ensures.ordered c.in_ok-value.ensures.written
