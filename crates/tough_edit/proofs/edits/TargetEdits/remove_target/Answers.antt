use Rattle.std.proofs.Common.{ap, ap₂, ◌∙◌}
use Rattle.std.specs.BTreeMap.{is_at}
use Rattle.tough_names.specs.Named.{by_raw_then_resolved}
use Rattle.tough_schema.specs.Targets.{listing_doc}
use Rattle.tough_schema.specs.Tree.{Listing}
use Rattle.tough_schema.proofs.lemmas.Wholes.{remove-listing}
use Rattle.tough_edit.specs.Edits.{EditsDoc, edits_doc}
use Rattle.tough_edit.proofs.edits.TargetEdits.remove_target.Goals as goal

pub returns : goal.returns
returns c =
    let e = c.args.self.now in
    let name = c.args.name.now in
    let shown : Listing → Listing → EditsDoc = λ old new. record (edits_doc e) { old_targets = old; new_targets = new } in
    ap₂ shown
    (ap listing_doc c.remove.ensures.entries ∙ remove-listing (is_at (by_raw_then_resolved name)) e.old_targets.entries)
    (ap listing_doc c.remove-2.ensures.entries ∙ remove-listing (is_at (by_raw_then_resolved name)) e.new_targets.entries)
