use Rattle.serde_json.specs.View.{view}
use Rattle.tough_roles.specs.Root.{root_doc}
use Rattle.tough_roles.proofs.lemmas.Root.{root-back}
use Rattle.tough_roles.proofs.root.RootRole.to_value.Goals as goal

pub returns-clause-back : goal.returns-clause-back
returns-clause-back c = λ kept. root-back (root_doc c.args.self.now) (view c.in_ok-value.value) c.args.self.now.expires.in_range kept c.in_ok-value.ensures.ordered c.in_ok-value.ensures.written
