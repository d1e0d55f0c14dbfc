use Rattle.std.proofs.Common.{ap, ◌∙◌}
use Rattle.tough_roles.specs.Root.{keys_doc}
use Rattle.tough_roles.proofs.lemmas.Entry.{insert-keys_doc}
use Rattle.tough_ceremony.proofs.listing.put_key.Goals as goal

pub returns-clause-put : goal.returns-clause-put
returns-clause-put c = ap keys_doc c.in_ok-insert.ensures.entries ∙ insert-keys_doc c.args.keys.now.entries c.args.id c.args.key
