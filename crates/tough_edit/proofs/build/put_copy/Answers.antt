use Rattle.std.proofs.Common.{ap, ap₂, ◌∙◌}
use Rattle.std.specs.BTreeMap.{insert_entry}
use Rattle.tough_names.specs.Named.{by_raw_then_resolved}
use Rattle.tough_schema.specs.Targets.{listing_doc}
use Rattle.tough_schema.proofs.lemmas.Wholes.{insert-listing}
use Rattle.tough_edit.proofs.build.put_copy.Goals as goal

pub returns : goal.returns
returns c =
    ap listing_doc c.in_ok-insert.ensures.entries ∙ (insert-listing c.args.all.now.entries c.in_ok-name.name c.in_ok-target.target
    ∙ ap₂ (insert_entry by_raw_then_resolved (listing_doc c.args.all.now.entries)) c.in_ok-name.ensures.cases c.in_ok-target.ensures.cases)
