use Rattle.std.proofs.Common.{ap, ◌∙◌}
use Rattle.std.specs.BTreeMap.{is_at}
use Rattle.tough_roles.specs.Root.{keys_doc, by_bytes}
use Rattle.tough_ceremony.proofs.Rolls.{remove_keys}
use Rattle.tough_ceremony.proofs.listing.drop_key.Goals as goal

pub returns : goal.returns
returns c = ap keys_doc c.remove.ensures.entries ∙ remove_keys (is_at (by_bytes c.args.id.now)) c.args.keys.now.entries
