use Rattle.std.proofs.Common.{ap, ◌∙◌}
use Rattle.tough_schema.specs.Targets.{listing_doc}
use Rattle.tough_schema.specs.Tree.{Listing}
use Rattle.tough_schema.proofs.lemmas.Wholes.{insert-listing}
use Rattle.tough_edit.specs.Edits.{EditsDoc, edits_doc}
use Rattle.tough_edit.proofs.edits.TargetEdits.add_target.Goals as goal

pub returns-clause-added : goal.returns-clause-added
returns-clause-added c =
    let e = c.args.self.now in
    let shown : Listing → EditsDoc = λ l. record (edits_doc e) { new_targets = l } in
    ap shown (ap listing_doc c.in_ok-insert.ensures.entries ∙ insert-listing e.new_targets.entries c.args.name c.args.target)
