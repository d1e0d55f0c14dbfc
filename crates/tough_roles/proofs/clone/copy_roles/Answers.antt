use Rattle.tough_roles.specs.Root.{role_keys_doc}
use Rattle.tough_roles.proofs.lemmas.Copies.{same_entries}
use Rattle.tough_roles.proofs.clone.copy_roles.Goals as goal

pub returns : goal.returns
returns c = same_entries (λ role. role) role_keys_doc c.args.roles.now.entries c.in_ok-copies.copies.entries c.in_ok-copies.ensures.cases
