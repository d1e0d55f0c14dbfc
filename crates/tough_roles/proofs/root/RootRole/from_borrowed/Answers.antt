use Rattle.serde_json.specs.View.{view}
use Rattle.tough_roles.specs.Root.{root_doc}
use Rattle.tough_roles.proofs.lemmas.Entry.{root-own}
use Rattle.tough_roles.proofs.root.RootRole.from_borrowed.Goals as goal

pub returns-in-Ok-clause-kept : goal.returns-in-Ok-clause-kept
returns-in-Ok-clause-kept c = λ d h. root-own (view c.in-Ok.value) (root_doc c.in_ok-root-in-Ok.root) c.in_ok-root-in-Ok.ensures
