use Rattle.std.proofs.Common.{ap, ap₂, ◌∙◌}
use Rattle.std.specs.BTreeMap.{insert_entry}
use Rattle.tough_roles.specs.Root.{keys_doc, by_bytes}
use Rattle.tough_edit.proofs.Lists.{insert_keys}
use Rattle.tough_edit.proofs.keys.put_copy.Goals as goal

pub returns : goal.returns
returns c =
    ap keys_doc c.in_ok-insert.ensures.entries ∙ (insert_keys c.args.known.now.entries c.in_ok-keyid.keyid c.in_ok-key.key
    ∙ ap₂ (insert_entry by_bytes (keys_doc c.args.known.now.entries)) c.in_ok-keyid.ensures.cases c.in_ok-key.ensures.cases)
