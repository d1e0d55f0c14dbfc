use Rattle.tough_keys.specs.Key.{key_doc}
use Rattle.tough_roles.proofs.lemmas.Copies.{same_entries}
use Rattle.tough_roles.proofs.clone.copy_keys.Goals as goal

pub returns : goal.returns
returns c = same_entries (λ id. id) key_doc c.args.keys.now.entries c.in_ok-copies.copies.entries c.in_ok-copies.ensures.cases
