use Rattle.serde_json.specs.View.{view}
use Rattle.tough_schema.specs.declared.targets.DelegatedTargets.{out-DelegatedTargets}
use Rattle.tough_schema.specs.declared.targets.Targets.{out-Targets}
use Rattle.tough_schema.specs.Targets.{targets_doc}
use Rattle.tough_schema.proofs.TargetsLemmas.{targets-back}
use Rattle.tough_schema.proofs.targets.DelegatedTargetsRole.to_value.Goals as goal

pub returns-clause-back : goal.returns-clause-back
returns-clause-back c = λ kept. let t = (out-DelegatedTargets c.args.self.now).targets in
    targets-back (targets_doc t) (view c.in_ok-value.value) (out-Targets t).expires.in_range kept c.in_ok-value.ensures.ordered c.in_ok-value.ensures.written
